-- Each step keeps the rule of the ring.
use Rattle.std.proofs.Common.{◌≡◌, ℕ, zero, suc, ◌==◌, map, replicate, mod-eq_of_lt, ◌+◌, ◌-◌, ◌*◌, ◌%◌, ◌^◌, ◌<◌, ◌≤◌, eqb, ◌≢◌, ◌⊎◌}
use Rattle.std.proofs.Common.{⊎_elim, true, false, true≢false, List, [], ◌∷◌, ◌++◌, length, get_or, set, sym, refl, ap, ◌∙◌, subst, mod-lt}
use Rattle.std.proofs.Common.{le_refl, suc-ne-zero, bit_or, arith, length-set, get_or-set_other, get_or-set_same}
use mathlib.Core.Path.{Path}
use mathlib.Core.Option.{none, some}
use mathlib.Core.Option as maybe
use native.Mathlib.Nat.{add-mod_right}
use Rattle.std.proofs.Math.Nat.{mul-le-mul_right}
use lib.ListN.{get_elem?, length-map, length-replicate}
use prog.Atomic.{either}
use Rattle.std.specs.Prelude.{Option, Some, None}
use Rattle.atomic_table.specs.Table.{Act, keeps, takes, gives, Valid, carried_after, stepped, Allows, Enters, opening}
use Rattle.atomic_table.proofs.Lists.{set_here, set_else, exchanged, one_turn, at_snoc}
use Rattle.queue_steps.specs.ClosableQueue.{most_accepted}
use Rattle.queue_steps.specs.Bounded.{IsShape, IsPlaceWord, word_at, count_at, next_at, is_marked}
use Rattle.concurrent_queue.specs.BoundedRule.{Phase, free, writing, full, reading, forcing, swapping, up, above, back, Cell, InPhase}
use Rattle.concurrent_queue.specs.BoundedRule.{CellOk, Knows, Keeps, BoundedRule, doing, Known, saw_tail, saw_head, looked, looked_behind}
use Rattle.concurrent_queue.specs.BoundedRule.{looked_at_tail}
use Rattle.concurrent_queue.specs.BoundedRule.{stamped, entered, appended, took, displaced, advanced, spent, closed, gave, AreNewWords}
use Rattle.concurrent_queue.specs.declared.bounded.rule.Doing.{Doing}
use Rattle.concurrent_queue.specs.declared.bounded.rule.Stage.TheVariants.{Idle, SawTail, SawHead, SawStamp, Writing, Reading, Forcing}
use Rattle.concurrent_queue.specs.declared.bounded.rule.Stage.TheVariants.{Swapping}
use Rattle.queue_steps.proofs.BoundedWords.{next_is, index_of_word, word_a_lap_on, word_unmarked, marked_by, first_word, count_of, count_of_word}
use Rattle.concurrent_queue.proofs.BoundedFaces.{one_place, one_count, one_tail, shut_of, bare, or_open, or_shut, word_below}
use Rattle.concurrent_queue.proofs.BoundedCells.{put_here, holder, rank, at_most_one, is_free, is_full, St, moved, unmoved, knows, reviewed}
use Rattle.concurrent_queue.proofs.BoundedCells.{seats_stay, views_keep}

module _ (n m : ℕ) (s : IsShape n m) where
  -- what the stamp of a place says of its round: none is below a free one, none whose item was written is below a full one, and
  -- none of the lap before is below one that a displacement finds
  free_tells : (p x q : ℕ) → q % n ≡ p % n → (ph : Phase) → x + back m ph ≡ word_at n m q + above ph → x ≡ word_at n m p → p ≤ q
  free_tells p x q same free e is = let z = (one_place n m s p q 0 0 same (omega arith) (omega arith) (omega arith)).0 in omega arith
  free_tells p x q same (writing j) e is = let z = (one_place n m s p q 0 0 same (omega arith) (omega arith) (omega arith)).0 in omega arith
  free_tells p x q same full e is = let z = (one_place n m s p q 1 0 same (omega arith) (omega arith) (omega arith)).0 in omega arith
  free_tells p x q same (reading j) e is = let z = (one_place n m s p q 1 0 same (omega arith) (omega arith) (omega arith)).0 in omega arith
  free_tells p x q same (forcing j) e is = let z = (one_place n m s p q 1 0 same (omega arith) (omega arith) (omega arith)).0 in omega arith
  free_tells p x q same (swapping j) e is =
      let lap = word_a_lap_on n m s p in
      let z = (one_place n m s (p + n) q 1 0 (same ∙ sym (add-mod_right p n)) (omega arith) (omega arith) (omega arith)).1 in
      absurd (omega arith)

  full_tells : (p x q : ℕ) → q % n ≡ p % n → (ph : Phase) → x + back m ph ≡ word_at n m q + above ph → x ≡ word_at n m p + 1
      → 2 * p + 1 ≤ 2 * q + up ph
  full_tells p x q same free e is = let z = (one_place n m s p q 0 1 same (omega arith) (omega arith) (omega arith)).1 in
      absurd (omega arith)
  full_tells p x q same (writing j) e is = let z = (one_place n m s p q 0 1 same (omega arith) (omega arith) (omega arith)).1 in
      absurd (omega arith)
  full_tells p x q same full e is = let z = (one_place n m s p q 1 1 same (omega arith) (omega arith) (omega arith)).0 in omega arith
  full_tells p x q same (reading j) e is = let z = (one_place n m s p q 1 1 same (omega arith) (omega arith) (omega arith)).0 in omega arith
  full_tells p x q same (forcing j) e is = let z = (one_place n m s p q 1 1 same (omega arith) (omega arith) (omega arith)).0 in omega arith
  full_tells p x q same (swapping j) e is =
      let lap = word_a_lap_on n m s p in let pos = s.some in
      let z : q ≡ p + n = (one_place n m s (p + n) q 1 1 (same ∙ sym (add-mod_right p n)) (omega arith) (omega arith) (omega arith)).0 in
      omega arith

  old_tells : (p x q : ℕ) → q % n ≡ p % n → (ph : Phase) → x + back m ph ≡ word_at n m q + above ph → x + 2 * m ≡ word_at n m p + 1
      → 2 * p + 1 ≤ 2 * (q + n) + up ph
  old_tells p x q same free e is =
      let lap = word_a_lap_on n m s q in
      let z = (one_place n m s p (q + n) 0 1 (add-mod_right q n ∙ same) (omega arith) (omega arith) (omega arith)).1 in
      absurd (omega arith)
  old_tells p x q same (writing j) e is =
      let lap = word_a_lap_on n m s q in
      let z = (one_place n m s p (q + n) 0 1 (add-mod_right q n ∙ same) (omega arith) (omega arith) (omega arith)).1 in
      absurd (omega arith)
  old_tells p x q same full e is =
      let lap = word_a_lap_on n m s q in
      let z : q + n ≡ p = (one_place n m s p (q + n) 1 1 (add-mod_right q n ∙ same) (omega arith) (omega arith) (omega arith)).0 in
      omega arith
  old_tells p x q same (reading j) e is =
      let lap = word_a_lap_on n m s q in
      let z : q + n ≡ p = (one_place n m s p (q + n) 1 1 (add-mod_right q n ∙ same) (omega arith) (omega arith) (omega arith)).0 in
      omega arith
  old_tells p x q same (forcing j) e is =
      let lap = word_a_lap_on n m s q in
      let z : q + n ≡ p = (one_place n m s p (q + n) 1 1 (add-mod_right q n ∙ same) (omega arith) (omega arith) (omega arith)).0 in
      omega arith
  old_tells p x q same (swapping j) e is =
      let pos = s.some in let z : q ≡ p = (one_place n m s p q 1 1 same (omega arith) (omega arith) (omega arith)).0 in omega arith

one_if : (k : ℕ) → k ≤ 1 → (k == 1) ≡ true → k ≡ 1
one_if zero le e = absurd (true≢false (sym e))
one_if (suc zero) le e = refl
one_if (suc (suc k)) le e = absurd (omega arith)

module _ {T : Type 0} (n m : ℕ) where
  -- whether the tail has the mark, and whether the rule has it closed
  found_shut : (s : St T) (r : BoundedRule n m s) (mark : ℕ) → mark ≡ m → is_marked mark (get_or s.words 0 0) ≡ true → r.shut ≡ 1
  found_shut s r mark same told =
      one_if r.shut r.shut_once
      (sym (ap (λ (k : ℕ). is_marked k (get_or s.words 0 0)) same ∙ ap (is_marked m) r.tail_is
      ∙ marked_by n m r.shape r.pushed r.shut r.shut_once) ∙ told)

  still_shut : (s : St T) (r : BoundedRule n m s) (id : ℕ) (me : Known T) → get_elem? s.views id ≡ some me.0 → me.0.closed ≡ true
      → is_marked me.0.mark (get_or s.words 0 0) ≡ true
  still_shut s r id me at knew = let k = r.each_view id me.0 at in
      ap (λ (z : ℕ). is_marked z (get_or s.words 0 0)) k.0 ∙ ap (is_marked m) r.tail_is ∙ marked_by n m r.shape r.pushed r.shut r.shut_once
      ∙ ap (λ (z : ℕ). z == 1) (k.1 knew)

  -- a view that looked at the tail
  abbrev tail_kept : (s : St T) (r : BoundedRule n m s) (id : ℕ) (me : Known T) → get_elem? s.views id ≡ some me.0
      → (me.0.mark ≡ m) × (is_marked me.0.mark (get_or s.words 0 0) ≡ true → r.shut ≡ 1)
  tail_kept s r id me at = let same = (r.each_view id me.0 at).0 in (same, found_shut s r me.0.mark same)

  abbrev pub Goes : St T → ℕ → ℕ → Known T → (ℕ → Known T → Type 0) → ℕ → Type 0
  Goes s k id me then x = (w : Doing) × (a : Act (Option T)) × Valid s.homes me.1 a × BoundedRule n m (stepped s k x id me.1 w a)
      × then (get_or s.words k 0) (w, carried_after me.1 a)

  -- nothing but the view changes
  stands : (s : St T) (r : BoundedRule n m s) (k id : ℕ) (me : Known T) (then : ℕ → Known T → Type 0) (w : Doing)
      → Knows n m r.pushed r.popped id w.at w.place w.word w.stamp (r.cells w.place) w.stage → Keeps m r.shut w
      → then (get_or s.words k 0) (w, me.1) → Goes s k id me then (get_or s.words k 0)
  stands s r k id me then w mine keep told = (w, keeps, tt, unmoved n m s r k id me.1 w mine keep, told)

  pub sees_tail : (c id : ℕ) (me : Known T) (prior : List ℕ) → Allows (BoundedRule {T = T} n m) c id me 0 (λ x. x) (saw_tail prior me)
  sees_tail c id me prior s r wide at _ =
      let y : ℕ = get_or s.words 0 0 in
      stands s r 0 id me (saw_tail prior me) (doing SawTail r.pushed 0 y 0 me.0.mark (is_marked me.0.mark y) (prior ++ y ∷ []))
      (le_refl r.pushed, (r.shut, r.shut_once, r.tail_is)) (tail_kept s r id me at) ((r.pushed, refl), still_shut s r id me at)

  pub sees_head : (c id : ℕ) (me : Known T) (prior : List ℕ) → Allows (BoundedRule {T = T} n m) c id me 16 (λ x. x) (saw_head prior me)
  sees_head c id me prior s r wide at _ =
      stands s r 16 id me (saw_head prior me)
      (doing SawHead r.popped 0 (get_or s.words 16 0) 0 me.0.mark me.0.closed (prior ++ get_or s.words 16 0 ∷ [])) (
        le_refl r.popped,
        r.head_is,
      ) (r.each_view id me.0 at) (r.popped, refl)

  pub looks : (c id : ℕ) (me : Known T) (k : ℕ) → Allows (BoundedRule {T = T} n m) c id me k (λ x. x) (looked me)
  looks c id me k s r wide at _ =
      stands s r k id me (looked me) (record me.0 { found = me.0.found ++ get_or s.words k 0 ∷ [] }) (r.each_seat id me.0 at)
      (r.each_view id me.0 at) refl

  -- no tail that was seen is further ahead of the head than there are places
  near_head : (s : St T) (r : BoundedRule n m s) (id : ℕ) (d : Doing) → get_elem? s.views id ≡ some d → d.stage ≡ SawTail
      → count_at n d.mark d.word ≤ count_at n d.mark (get_or s.words 16 0) + n
  near_head s r id d at st =
      let kn = knows n m s r id d SawTail at st in let mark = (r.each_view id d at).0 in let y : ℕ = get_or s.words 16 0 in
      let t : count_at n d.mark d.word ≡ d.at =
      ap (λ (z : ℕ). count_at n z d.word) mark ∙ ap (count_at n m) kn.1.2 ∙ count_of n m r.shape d.at kn.1.0 kn.1.1 in
      let h : count_at n d.mark y ≡ r.popped =
      ap (λ (z : ℕ). count_at n z y) mark ∙ ap (count_at n m) r.head_is ∙ count_of_word n m r.shape r.popped in
      let seen : d.at ≤ r.pushed = kn.0 in let within : r.pushed ≤ r.popped + n = r.within in
      omega arith

  pub looks_behind : (c id : ℕ) (me : Known T) → c ≡ n → Allows (BoundedRule {T = T} n m) c id me 16 (λ x. x) (looked_behind c me)
  looks_behind c id me same =
      subst (λ (z : ℕ). Allows (BoundedRule {T = T} n m) c id me 16 (λ x. x) (looked_behind z me)) (sym same)
      (λ s r wide at _.
      let y : ℕ = get_or s.words 16 0 in
      stands s r 16 id me (looked_behind n me) (record me.0 { found = me.0.found ++ y ∷ [] }) (r.each_seat id me.0 at)
      (r.each_view id me.0 at) (refl, λ st. near_head s r id me.0 at st))

  pub looks_at_tail : (c id : ℕ) (me : Known T) → Allows (BoundedRule {T = T} n m) c id me 0 (λ x. x) (looked_at_tail me)
  looks_at_tail c id me s r wide at _ = let y : ℕ = get_or s.words 0 0 in
      stands s r 0 id me (looked_at_tail me) (record me.0 { closed = is_marked me.0.mark y; found = me.0.found ++ y ∷ [] })
      (r.each_seat id me.0 at) (tail_kept s r id me at) (refl, still_shut s r id me at)

  -- what the word of a seat tells of the place
  sees_stamp : (s : St T) (r : BoundedRule n m s) (id : ℕ) (me : Known T) → get_elem? s.views id ≡ some me.0 → (i p : ℕ) → me.0.at ≡ p
      → me.0.word ≡ word_at n m p → p ≤ r.pushed → i ≡ p % n → Goes s (i + 32) id me (stamped (i + 32) me) (get_or s.words (i + 32) 0)
  sees_stamp s r id me at i p at_p word few lies =
      let k : ℕ = i + 32 in let x : ℕ = get_or s.words k 0 in let pos : 0 < n = r.shape.some in
      let near : i < n = subst (λ (z : ℕ). z < n) (sym lies) (mod-lt p pos) in
      let ok = r.each_cell i near in let q : ℕ = (r.cells i).0 in let ph = (r.cells i).1 in let same : q % n ≡ p % n = ok.lies ∙ lies in
      let place : k - 32 ≡ i = omega arith in let v : ℕ = me.0.word in
      stands s r k id me (stamped k me) (doing SawStamp me.0.at (k - 32) v x me.0.mark me.0.closed (me.0.found ++ x ∷ []))
      (subst (λ (j : ℕ). Knows n m r.pushed r.popped id me.0.at j v x (r.cells j) SawStamp) (sym place)
      (subst (λ (z : ℕ). Knows n m r.pushed r.popped id z i v x (r.cells i) SawStamp) (sym at_p) (
        word,
        lies,
        few,
        (λ e. free_tells n m r.shape p x q same ph ok.shows (e ∙ word)),
        (λ e. full_tells n m r.shape p x q same ph ok.shows (e ∙ ap (λ (z : ℕ). z + 1) word)),
        (λ e. old_tells n m r.shape p x q same ph ok.shows (e ∙ ap (λ (z : ℕ). z + 1) word)),
      ))) (r.each_view id me.0 at) refl

  pub sees_stamp_at_tail : (c id : ℕ) (me : Known T) (i : ℕ) → me.0.stage ≡ SawTail → i ≡ me.0.word % m → is_marked m me.0.word ≡ false
      → Allows (BoundedRule {T = T} n m) c id me (i + 32) (λ x. x) (stamped (i + 32) me)
  sees_stamp_at_tail c id me i st is unmarked s r wide at _ =
      let kn = knows n m s r id me.0 SawTail at st in let p : ℕ = me.0.at in let shut : ℕ = kn.1.0 in
      let none_ = shut_of n m r.shape p shut me.0.word kn.1.1 kn.1.2 unmarked in
      let word : me.0.word ≡ word_at n m p = kn.1.2 ∙ bare n m r.shape p shut none_ in
      sees_stamp s r id me at i p refl word kn.0 (is ∙ ap (λ (z : ℕ). z % m) word ∙ index_of_word n m r.shape p)

  pub sees_stamp_at_head : (c id : ℕ) (me : Known T) (i : ℕ) → me.0.stage ≡ SawHead → i ≡ me.0.word % m
      → Allows (BoundedRule {T = T} n m) c id me (i + 32) (λ x. x) (stamped (i + 32) me)
  sees_stamp_at_head c id me i st is s r wide at _ =
      let kn = knows n m s r id me.0 SawHead at st in let p : ℕ = me.0.at in let t : ℕ = r.popped in let few : p ≤ t = kn.0 in
      let behind : t ≤ r.pushed = r.behind in
      let word : me.0.word ≡ word_at n m p = kn.1 in
      sees_stamp s r id me at i p refl word (omega arith) (is ∙ ap (λ (z : ℕ). z % m) word ∙ index_of_word n m r.shape p)

  pub appends : (c id : ℕ) (me : Known T) (old new : ℕ) → me.0.stage ≡ SawStamp → old ≡ me.0.word → me.0.stamp ≡ me.0.word
      → new ≡ next_at n m old
      → Allows (BoundedRule {T = T} n m) c id me 0 (λ y. either (eqb y old) new y) (appended old me)
  appends c id me old new st was stamp is s r wide at _ = let y : ℕ = get_or s.words 0 0 in let p : ℕ = me.0.at in
      let i : ℕ = me.0.place in let then = appended old me in
      let pos : 0 < n = r.shape.some in exchanged y old new (Goes s 0 id me then)
      (λ hit. let kn = knows n m s r id me.0 SawStamp at st in let word : me.0.word ≡ word_at n m p = kn.0 in
      let lies : i ≡ p % n = kn.1 in let near : i < n = subst (λ (z : ℕ). z < n) (sym lies) (mod-lt p pos) in
      let tail = one_tail n m r.shape p r.pushed r.shut r.shut_once (sym r.tail_is ∙ hit ∙ was ∙ word) in let a : ℕ = r.pushed in
      let t : ℕ = r.popped in let q : ℕ = (r.cells i).0 in
      let ok = r.each_cell i near in let at_p : a ≡ p = tail.0 in let seen : p ≤ q = kn.3 stamp in let behind : t ≤ a = r.behind in
      let freed : q < t + n = ok.freed in
      let fr = is_free n a t s.homes i q behind (omega arith) (r.cells i).1 ok.phase in
      let same : p ≡ q = one_turn p q n seen (omega arith) (sym (ok.lies ∙ lies)) in let u : up (r.cells i).1 ≡ 0 = ap up fr.0 in
      let next : new ≡ word_at n m (p + 1) = is ∙ ap (next_at n m) (was ∙ word) ∙ next_is n m r.shape p in
      let ws : ℕ = length s.words in let wide' : ws ≡ n + 32 = r.wide in let w : Doing = entered Writing me y in (
        w,
        takes i None,
        fr.1,
        moved n m s r 0 new i id (p + 1) t (p, writing id) (set s.homes i none) w (length-set s.homes i none
            ∙ r.places) (get_or-set_same s.words 0 new 0 (omega arith) ∙ next ∙ sym (bare n m r.shape (p + 1) r.shut tail.1))
            (get_or-set_other s.words 0 16 new 0 (λ e. omega arith) ∙ r.head_is) (omega arith) (omega arith) (omega arith) (le_refl t)
            (λ z other le. let ne : z ≢ p = λ e. other (ap (λ (x : ℕ). x % n) e ∙ sym lies) in omega arith) (λ z _ le. le)
            (λ j _ e. omega arith) (λ j other. set_else s.homes i j none other)
            record {
              shows = ap (λ (z : ℕ). z + 0) (get_or-set_other s.words 0 (i + 32) new 0 (λ e. omega arith))
                  ∙ (ap (λ (ph : Phase). get_or s.words (i + 32) 0 + back m ph) (sym fr.0) ∙ ok.shows
                  ∙ (λ k. word_at n m (sym same k) + above (fr.0 k)));
              lies = sym lies;
              freed = omega arith;
              waits = omega arith;
              phase = (let g : t ≤ p = omega arith in g, let f : p < p + 1 = omega arith in f);
            }
            (let g : q ≤ p = omega arith in g) (let g : 2 * q + up (r.cells i).1 ≤ 2 * p + 0 = omega arith in
            g) (λ j _ e. suc-ne-zero j (sym e ∙ ap holder fr.0)) (word, lies, put_here r.cells i (p, writing id))
            (r.each_view id me.0 at),
        ((λ _. refl), λ miss. absurd (miss hit)),
      ))
      (λ miss. stands s r 0 id me
      then (doing SawTail r.pushed 0 y 0 me.0.mark (is_marked me.0.mark y) (me.0.found ++ y ∷ [])) (
        le_refl r.pushed,
        (r.shut, r.shut_once, r.tail_is),
      ) (tail_kept s r id me at)
      ((λ hit. absurd (miss hit)), λ _. ((r.pushed, refl), still_shut s r id me at)))

  pub takes_item : (c id : ℕ) (me : Known T) (old new : ℕ) → me.0.stage ≡ SawStamp → old ≡ me.0.word → me.0.stamp ≡ me.0.word + 1
      → new ≡ next_at n m old
      → Allows (BoundedRule {T = T} n m) c id me 16 (λ y. either (eqb y old) new y) (took old me)
  takes_item c id me old new st was stamp is s r wide at _ = let y : ℕ = get_or s.words 16 0 in let p : ℕ = me.0.at in
      let i : ℕ = me.0.place in let then = took old me in
      let pos : 0 < n = r.shape.some in exchanged y old new (Goes s 16 id me then)
      (λ hit. let kn = knows n m s r id me.0 SawStamp at st in let word : me.0.word ≡ word_at n m p = kn.0 in
      let lies : i ≡ p % n = kn.1 in let near : i < n = subst (λ (z : ℕ). z < n) (sym lies) (mod-lt p pos) in
      let at_p : r.popped ≡ p = one_count n m r.shape p r.popped (sym r.head_is ∙ hit ∙ was ∙ word) in let a : ℕ = r.pushed in
      let t : ℕ = r.popped in let q : ℕ = (r.cells i).0 in
      let ok = r.each_cell i near in let u : ℕ = up (r.cells i).1 in let small : u ≤ 1 = at_most_one (r.cells i).1 in
      let seen : 2 * p + 1 ≤ 2 * q + u = kn.4 stamp in let freed : q < t + n = ok.freed in let waits : a ≤ q + n = ok.waits in
      let t_p : t ≡ p = at_p in let same : p ≡ q = one_turn p q n (omega arith) (omega arith) (sym (ok.lies ∙ lies)) in
      let fl = is_full n a t s.homes i q (omega arith) (r.cells i).1 (let g : 1 ≤ u = omega arith in g) ok.phase in
      let x : T = fl.1.2.0 in let below : q < a = fl.1.1 in let within : a ≤ t + n = r.within in
      let next : new ≡ word_at n m (p + 1) = is ∙ ap (next_at n m) (was ∙ word) ∙ next_is n m r.shape p in
      let ws : ℕ = length s.words in let wide' : ws ≡ n + 32 = r.wide in let w : Doing = entered Reading me y in (
        w,
        takes i (Some x),
        fl.1.2.1,
        moved n m s r 16 new i id a (p + 1) (p, reading id) (set s.homes i none) w (length-set s.homes i none
            ∙ r.places) (get_or-set_other s.words 16 0 new 0 (λ e. omega arith) ∙ r.tail_is)
            (get_or-set_same s.words 16 new 0 (omega arith) ∙ next) (omega arith) (omega arith) (le_refl a) (omega arith) (λ z _ le. le)
            (λ z other le. let ne : z ≢ p = λ e. other (ap (λ (v : ℕ). v % n) e ∙ sym lies) in omega arith)
            (λ j _ e. omega arith) (λ j other. set_else s.homes i j none other)
            record {
              shows = ap (λ (z : ℕ). z + 0) (get_or-set_other s.words 16 (i + 32) new 0 (λ e. omega arith))
                  ∙ (ap (λ (ph : Phase). get_or s.words (i + 32) 0 + back m ph) (sym fl.0) ∙ ok.shows
                  ∙ (λ k. word_at n m (sym same k) + above (fl.0 k)));
              lies = sym lies;
              freed = omega arith;
              waits = omega arith;
              phase = let f : p < p + 1 = omega arith in f;
            }
            (let g : q ≤ p = omega arith in g) (let g : 2 * q + u ≤ 2 * p + 1 = omega arith in
            g) (λ j _ e. suc-ne-zero j (sym e ∙ ap holder fl.0)) (word, lies, put_here r.cells i (p, reading id))
            (r.each_view id me.0 at),
        ((λ _. (x, refl)), λ miss. absurd (miss hit)),
      ))
      (λ miss. stands s r 16 id me
      then (doing SawHead r.popped 0 y 0 me.0.mark me.0.closed (me.0.found ++ y ∷ [])) (le_refl r.popped, r.head_is)
      (r.each_view id me.0 at) ((λ hit. absurd (miss hit)), λ _. (r.popped, refl)))

  -- the ring is full at this moment, and its oldest item is taken for an append that has to follow
  pub displaces : (c id : ℕ) (me : Known T) (old new : ℕ) → me.0.stage ≡ SawStamp → old + 2 * m ≡ me.0.word
      → me.0.stamp + 2 * m ≡ me.0.word + 1 → new ≡ next_at n m old
      → Allows (BoundedRule {T = T} n m) c id me 16 (λ y. either (eqb y old) new y) (displaced old me)
  displaces c id me old new st was stamp is s r wide at _ = let y : ℕ = get_or s.words 16 0 in let p : ℕ = me.0.at in
      let i : ℕ = me.0.place in let then = displaced old me in
      let pos : 0 < n = r.shape.some in exchanged y old new (Goes s 16 id me then)
      (λ hit. let kn = knows n m s r id me.0 SawStamp at st in let word : me.0.word ≡ word_at n m p = kn.0 in
      let lies : i ≡ p % n = kn.1 in let near : i < n = subst (λ (z : ℕ). z < n) (sym lies) (mod-lt p pos) in
      let a : ℕ = r.pushed in let t : ℕ = r.popped in let head : old ≡ word_at n m t = sym hit ∙ r.head_is in
      let full_ : t + n ≡ p =
      one_count n m r.shape p (t + n) (word_a_lap_on n m r.shape t ∙ ap (λ (z : ℕ). z + 2 * m) (sym head) ∙ was ∙ word) in
      let q : ℕ = (r.cells i).0 in let seen : p ≤ a = kn.2 in let within : a ≤ t + n = r.within in let at_p : a ≡ p = omega arith in
      let ok = r.each_cell i near in let u : ℕ = up (r.cells i).1 in let small : u ≤ 1 = at_most_one (r.cells i).1 in
      let old_ : 2 * p + 1 ≤ 2 * (q + n) + u = kn.5 stamp in let freed : q < t + n = ok.freed in
      let lies' : t % n ≡ q % n = sym (add-mod_right t n) ∙ ap (λ (z : ℕ). z % n) full_ ∙ sym (ok.lies ∙ lies) in
      let same : t ≡ q = one_turn t q n (omega arith) (omega arith) lies' in
      let fl = is_full n a t s.homes i q (omega arith) (r.cells i).1 (let g : 1 ≤ u = omega arith in g) ok.phase in
      let x : T = fl.1.2.0 in
      let next : new ≡ word_at n m (t + 1) = is ∙ ap (next_at n m) head ∙ next_is n m r.shape t in
      let ws : ℕ = length s.words in let wide' : ws ≡ n + 32 = r.wide in let w : Doing = entered Forcing me y in (
        w,
        takes i (Some x),
        fl.1.2.1,
        moved n m s r 16 new i id a (t + 1) (t, forcing id) (set s.homes i none) w (length-set s.homes i none
            ∙ r.places) (get_or-set_other s.words 16 0 new 0 (λ e. omega arith) ∙ r.tail_is)
            (get_or-set_same s.words 16 new 0 (omega arith) ∙ next) (omega arith) (omega arith) (le_refl a) (omega arith) (λ z _ le. le)
            (λ z other le. let ne : z ≢ t = λ e. other (ap (λ (v : ℕ). v % n) e ∙ lies' ∙ ok.lies) in omega arith)
            (λ j _ e. omega arith) (λ j other. set_else s.homes i j none other)
            record {
              shows = ap (λ (z : ℕ). z + 0) (get_or-set_other s.words 16 (i + 32) new 0 (λ e. omega arith))
                  ∙ (ap (λ (ph : Phase). get_or s.words (i + 32) 0 + back m ph) (sym fl.0) ∙ ok.shows
                  ∙ (λ k. word_at n m (sym same k) + above (fl.0 k)));
              lies = lies' ∙ ok.lies;
              freed = omega arith;
              waits = omega arith;
              phase = (let f : t < t + 1 = omega arith in f, let g : t + n ≤ a = omega arith in g);
            }
            (let g : q ≤ t = omega arith in g) (let g : 2 * q + u ≤ 2 * t + 1 = omega arith in
            g) (λ j _ e. suc-ne-zero j (sym e ∙ ap holder fl.0)) (word, lies, (t, full_, put_here r.cells i (t, forcing id)))
            (r.each_view id me.0 at),
        ((λ _. (x, refl)), λ miss. absurd (miss hit)),
      ))
      (λ miss. stands s r 16 id me
      then (record me.0 { found = me.0.found ++ y ∷ [] }) (r.each_seat id me.0 at) (r.each_view id me.0 at)
      ((λ hit. absurd (miss hit)), λ _. refl))

  -- the append that has to follow: the tail is still where the displacement saw it, with its mark or without
  pub advances : (c id : ℕ) (me : Known T) (by : ℕ) → me.0.stage ≡ Forcing → me.0.word + by ≡ next_at n m me.0.word
      → IsPlaceWord n m me.0.word
      → Allows (BoundedRule {T = T} n m) c id me 0 (λ y. (y + by) % 18446744073709551616) (advanced me)
  advances c id me by st is place s r wide at _ = let y : ℕ = get_or s.words 0 0 in let p : ℕ = me.0.at in let i : ℕ = me.0.place in
      let pos : 0 < n = r.shape.some in let kn = knows n m s r id me.0 Forcing at st in let word : me.0.word ≡ word_at n m p = kn.0 in
      let lies : i ≡ p % n = kn.1 in let near : i < n = subst (λ (z : ℕ). z < n) (sym lies) (mod-lt p pos) in
      let q : ℕ = kn.2.0 in let lap : q + n ≡ p = kn.2.1 in let mine : Path Cell (r.cells i) (q, forcing id) = kn.2.2 in
      let ok = subst (CellOk n m r.pushed r.popped s.words s.homes i) mine (r.each_cell i near) in
      let a : ℕ = r.pushed in let t : ℕ = r.popped in let owed : q + n ≤ a = ok.phase.1 in let waits : a ≤ q + n = ok.waits in
      let at_p : a ≡ p = omega arith in let passed : q < t = ok.phase.0 in let behind : t ≤ a = r.behind in
      let old_ : ℕ = me.0.word in let next : old_ + by ≡ word_at n m (p + 1) = is ∙ ap (next_at n m) word ∙ next_is n m r.shape p in
      let few = subst (λ (z : ℕ). z < most_accepted) (ap (count_at n m) word ∙ count_of_word n m r.shape p) place.count in
      let room = word_below n m r.shape (p + 1) (omega arith) in
      let k : ℕ = r.shut in let k_m : ℕ = k * m in let once : k_m ≤ 1 * m = mul-le-mul_right m r.shut_once in
      let tail : y ≡ old_ + k_m = r.tail_is ∙ ap (λ (z : ℕ). word_at n m z + k_m) at_p ∙ ap (λ (z : ℕ). z + k_m) (sym word) in
      let after : (y + by) % 18446744073709551616 ≡ word_at n m (p + 1) + k_m = omega arith in
      let new : ℕ = (y + by) % 18446744073709551616 in
      let ws : ℕ = length s.words in let wide' : ws ≡ n + 32 = r.wide in
      let w : Doing = record (entered Swapping me y) { closed = is_marked me.0.mark y } in
      let stamp_ : get_or s.words (i + 32) 0 + 0 ≡ word_at n m q + 1 = ok.shows in
      let up_a_lap : word_at n m p ≡ word_at n m q + 2 * m = ap (word_at n m) (sym lap) ∙ word_a_lap_on n m r.shape q in (
        w,
        keeps,
        tt,
        moved n m s r 0 new i id (p + 1) t (p, swapping id) s.homes w r.places (get_or-set_same s.words 0 new 0 (omega arith) ∙ after)
            (get_or-set_other s.words 0 16 new 0 (λ e. omega arith) ∙ r.head_is) (omega arith) (omega arith) (omega arith) (le_refl t)
            (λ z other le. let ne : z ≢ p = λ e. other (ap (λ (x : ℕ). x % n) e ∙ sym lies) in omega arith) (λ z _ le. le)
            (λ j _ e. omega arith) (λ j other. refl)
            record {
              shows = ap (λ (z : ℕ). z + 2 * m) (get_or-set_other s.words 0 (i + 32) new 0 (λ e. omega arith))
                  ∙ (let f : get_or s.words (i + 32) 0 + 2 * m ≡ word_at n m p + 1 = omega arith in f);
              lies = sym lies;
              freed = omega arith;
              waits = omega arith;
              phase = (let g : t ≤ p = omega arith in g, let f : p < p + 1 = omega arith in f);
            }
            (subst (λ (z : Cell). z.0 ≤ p) (sym mine) (let g : q ≤ p = omega arith in g))
            (subst (λ (z : Cell). rank z ≤ 2 * p + 0) (sym mine) (let g : 2 * q + 1 ≤ 2 * p + 0 = omega arith in g))
            (λ j other e. let same : suc id ≡ suc j = ap (λ (z : Cell). holder z.1) (sym mine) ∙ e in
            other (omega arith)) (word, lies, put_here r.cells i (p, swapping id)) (tail_kept s r id me at),
        (refl, still_shut s r id me at),
      )

  -- the seat that has a place sets its stamp and gives it back
  gives_back : (s : St T) (r : BoundedRule n m s) (id : ℕ) (me : Known T) → get_elem? s.views id ≡ some me.0
      → (i p new k : ℕ) (y : Option T) (more : List (ℕ × Option T)) (ph : Phase) (c' : Cell) → i < n → k ≡ i + 32 → me.1 ≡ (i, y) ∷ more
      → Path Cell (r.cells i) (p, ph) → holder ph ≡ suc id → p ≤ c'.0 → 2 * p + up ph ≤ rank c'
      → new + back m c'.1 ≡ word_at n m c'.0 + above c'.1 → c'.0 % n ≡ i
      → c'.0 < r.popped + n → r.pushed ≤ c'.0 + n → InPhase n r.pushed r.popped (set s.homes i (some y)) i c'.0 c'.1
      → Goes s k id me (λ _. gave me new) new
  gives_back s r id me at i p new k y more ph c' near is has mine held a b shows lies freed waits phase =
      let ws : ℕ = length s.words in let wide : ws ≡ n + 32 = r.wide in let is' : k ≡ i + 32 = is in
      let w : Doing = doing Idle 0 0 0 0 me.0.mark me.0.closed (me.0.found ++ new ∷ []) in (
        w,
        gives,
        tt,
        subst (λ (l : List (ℕ × Option T)). BoundedRule n m (stepped s k new id l w gives)) (sym has)
            (moved n m s r k new i id r.pushed r.popped c' (set s.homes i (some y)) w (length-set s.homes i (some y)
            ∙ r.places) (get_or-set_other s.words k 0 new 0 (λ e. omega arith) ∙ r.tail_is)
            (get_or-set_other s.words k 16 new 0 (λ e. omega arith) ∙ r.head_is) r.behind r.within (le_refl _) (le_refl _) (λ _ _ le. le)
            (λ _ _ le. le) (λ j other e. other (omega arith)) (λ j other. set_else s.homes i j (some y) other)
            record {
              shows = ap (λ (z : ℕ). z + back m c'.1) (ap (λ (j : ℕ). get_or (set s.words k new) j 0) (sym is')
                  ∙ get_or-set_same s.words k new 0 (omega arith)) ∙ shows;
              lies = lies;
              freed = freed;
              waits = waits;
              phase = phase;
            }
            (subst (λ (z : Cell). z.0 ≤ c'.0) (sym mine) a) (subst (λ (z : Cell). rank z ≤ rank c') (sym mine) b)
            (λ j other e. let same : suc id ≡ suc j = sym held ∙ (ap (λ (z : Cell). holder z.1) (sym mine) ∙ e) in
            other (omega arith)) tt (r.each_view id me.0 at)),
        refl,
      )

  -- the write after an append, or the swap after the append of a displacement
  pub publishes : (c id : ℕ) (me : Known T) (i new : ℕ) (x : T) (more : List (ℕ × Option T))
      → (me.0.stage ≡ Writing) ⊎ (me.0.stage ≡ Swapping) → i ≡ me.0.place → new ≡ me.0.word + 1 → me.1 ≡ (i, Some x) ∷ more
      → Allows (BoundedRule {T = T} n m) c id me (i + 32) (λ _. new) (λ _. gave me new)
  publishes c id me i new x more st is next has s r wide at _ = ⊎_elim (λ e. written e) (λ e. swapped e) st
    where
      p : ℕ
      p = me.0.at

      filled : (ph : Phase) → up ph ≤ 1 → holder ph ≡ suc id → Path Cell (r.cells i) (p, ph) → me.0.word ≡ word_at n m p → i ≡ p % n
          → r.popped ≤ p → p < r.pushed → CellOk n m r.pushed r.popped s.words s.homes i (p, ph)
          → Goes s (i + 32) id me (λ _. gave me new) new
      filled ph small held mine word lies low high ok = let near : i < n = subst (λ (z : ℕ). z < n) (sym lies) (mod-lt p r.shape.some) in
          let u : ℕ = up ph in
          gives_back s r id me at i p new (i + 32) (Some x) more ph (p, full) near refl has mine held (le_refl p)
          (let g : 2 * p + u ≤ 2 * p + 1 = omega arith in g)
          (ap (λ (z : ℕ). z + 0) next ∙ ap (λ (z : ℕ). z + 1 + 0) word
          ∙ (let f : word_at n m p + 1 + 0 ≡ word_at n m p + 1 = omega arith in f)) (sym lies) ok.freed ok.waits
          (low, high, (x, set_here s.homes i (some (Some x)) (let h : length s.homes ≡ n = r.places in omega arith)))

      written : me.0.stage ≡ Writing → Goes s (i + 32) id me (λ _. gave me new) new
      written e = let kn = knows n m s r id me.0 Writing at e in
          let mine : Path Cell (r.cells i) (p, writing id) = subst (λ (j : ℕ). Path Cell (r.cells j) (p, writing id)) (sym is) kn.2 in
          let lies : i ≡ p % n = is ∙ kn.1 in
          let ok = subst (CellOk n m r.pushed r.popped s.words s.homes i) mine
          (r.each_cell i (subst (λ (z : ℕ). z < n) (sym lies) (mod-lt p r.shape.some))) in
          filled (writing id) (omega arith) refl mine kn.0 lies ok.phase.0 ok.phase.1 ok

      swapped : me.0.stage ≡ Swapping → Goes s (i + 32) id me (λ _. gave me new) new
      swapped e = let kn = knows n m s r id me.0 Swapping at e in
          let mine : Path Cell (r.cells i) (p, swapping id) = subst (λ (j : ℕ). Path Cell (r.cells j) (p, swapping id)) (sym is) kn.2 in
          let lies : i ≡ p % n = is ∙ kn.1 in
          let ok = subst (CellOk n m r.pushed r.popped s.words s.homes i) mine
          (r.each_cell i (subst (λ (z : ℕ). z < n) (sym lies) (mod-lt p r.shape.some))) in
          filled (swapping id) (omega arith) refl mine kn.0 lies ok.phase.0 ok.phase.1 ok

  -- the read after a take
  pub releases : (c id : ℕ) (me : Known T) (i new : ℕ) (more : List (ℕ × Option T)) → me.0.stage ≡ Reading → i ≡ me.0.place
      → new ≡ me.0.word + 2 * m → me.1 ≡ (i, None) ∷ more
      → Allows (BoundedRule {T = T} n m) c id me (i + 32) (λ _. new) (λ _. gave me new)
  releases c id me i new more st is next has s r wide at _ =
      let p : ℕ = me.0.at in let pos : 0 < n = r.shape.some in let kn = knows n m s r id me.0 Reading at st in
      let lies : i ≡ p % n = is ∙ kn.1 in let near : i < n = subst (λ (z : ℕ). z < n) (sym lies) (mod-lt p pos) in
      let mine : Path Cell (r.cells i) (p, reading id) = subst (λ (j : ℕ). Path Cell (r.cells j) (p, reading id)) (sym is) kn.2 in
      let ok = subst (CellOk n m r.pushed r.popped s.words s.homes i) mine (r.each_cell i near) in
      let a : ℕ = r.pushed in let t : ℕ = r.popped in let read : p < t = ok.phase in let waits : a ≤ p + n = ok.waits in
      let homes : length s.homes ≡ n = r.places in
      gives_back s r id me at i p new (i + 32) None more (reading id) (p + n, free) near refl has mine refl (omega arith)
      (let g : 2 * p + 1 ≤ 2 * (p + n) + 0 = omega arith in g)
      (ap (λ (z : ℕ). z + 0) (next ∙ ap (λ (z : ℕ). z + 2 * m) kn.0 ∙ sym (word_a_lap_on n m r.shape p))) (add-mod_right p n
      ∙ sym lies) (let g : p + n < t + n = omega arith in g) (let g : a ≤ p + n + n = omega arith in
      g) (waits, set_here s.homes i (some None) (omega arith))

  -- the mark is set on a tail without it
  shuts : (s : St T) (r : BoundedRule n m s) (id : ℕ) (me : Known T) → get_elem? s.views id ≡ some me.0
      → (prior : List ℕ) (new : ℕ) (then : ℕ → Known T → Type 0) → new ≡ word_at n m r.pushed + 1 * m
      → then (get_or s.words 0 0) (doing SawTail r.pushed 0 (get_or s.words 0 0) 0 me.0.mark true (prior ++ get_or s.words 0 0 ∷ []), me.1)
      → Goes s 0 id me then new
  shuts s r id me at prior new then next told = let y : ℕ = get_or s.words 0 0 in
      let w : Doing = doing SawTail r.pushed 0 y 0 me.0.mark true (prior ++ y ∷ []) in let ws : ℕ = length s.words in
      let wide' : ws ≡ n + 32 = r.wide in (
        w,
        keeps,
        tt,
        record {
          shape = r.shape;
          pushed = r.pushed;
          popped = r.popped;
          shut = 1;
          cells = r.cells;
          shut_once = omega arith;
          places = r.places;
          wide = length-set s.words 0 new ∙ r.wide;
          tail_is = get_or-set_same s.words 0 new 0 (omega arith) ∙ next;
          head_is = get_or-set_other s.words 0 16 new 0 (λ e. omega arith) ∙ r.head_is;
          behind = r.behind;
          within = r.within;
          each_cell = λ i near. let ok = r.each_cell i near in record {
            shows = ap (λ (z : ℕ). z + back m (r.cells i).1) (get_or-set_other s.words 0 (i + 32) new 0 (λ e. omega arith)) ∙ ok.shows;
            lies = ok.lies;
            freed = ok.freed;
            waits = ok.waits;
            phase = ok.phase;
          };
          each_seat = seats_stay n m r.pushed r.popped r.cells s.views id w (le_refl r.pushed, (r.shut, r.shut_once, r.tail_is))
              (λ j d _. r.each_seat j d);
          each_view = views_keep m r.shut 1 s.views id w ((r.each_view id me.0 at).0, λ _. refl) (λ _. refl) r.each_view;
        },
        told,
      )

  -- the push of one item too many closes the ring
  pub spends : (c id : ℕ) (me : Known T) (old new : ℕ) → is_marked m old ≡ false → new ≡ old + m
      → Allows (BoundedRule {T = T} n m) c id me 0 (λ y. either (eqb y old) new y) (spent old me)
  spends c id me old new unmarked is s r wide at _ = let y : ℕ = get_or s.words 0 0 in let then = spent old me in
      exchanged y old new (Goes s 0 id me then)
      (λ hit. let none_ = shut_of n m r.shape r.pushed r.shut old r.shut_once (sym hit ∙ r.tail_is) unmarked in
      let word : old ≡ word_at n m r.pushed = sym hit ∙ r.tail_is ∙ bare n m r.shape r.pushed r.shut none_ in
      shuts s r id me at me.0.found new
      then (is ∙ ap (λ (z : ℕ). z + m) word ∙ (let f : word_at n m r.pushed + m ≡ word_at n m r.pushed + 1 * m = omega arith in f))
      (r.pushed, true, refl, (λ _. refl), (λ _. refl), λ miss. absurd (miss hit)))
      (λ miss. stands s r 0 id me
      then (doing SawTail r.pushed 0 y 0 me.0.mark (is_marked me.0.mark y) (me.0.found ++ y ∷ [])) (
        le_refl r.pushed,
        (r.shut, r.shut_once, r.tail_is),
      ) (tail_kept s r id me at)
      (r.pushed, is_marked me.0.mark y, refl, still_shut s r id me at, (λ hit. absurd (miss hit)), λ _. refl))

  -- the close, whatever the tail is
  closes_by : (c id : ℕ) (me : Known T) (k : ℕ) → m ≡ 2 ^ k → Allows (BoundedRule {T = T} n m) c id me 0 (λ y. bit_or y m) (closed me)
  closes_by c id me k power s r wide at _ = let y : ℕ = get_or s.words 0 0 in go r.shut r.shut_once refl
    where
      go : (shut : ℕ) → shut ≤ 1 → r.shut ≡ shut → Goes s 0 id me (closed me) (bit_or (get_or s.words 0 0) m)
      go zero once is = let y : ℕ = get_or s.words 0 0 in
          let word : y ≡ word_at n m r.pushed = r.tail_is ∙ bare n m r.shape r.pushed r.shut is in
          shuts s r id me at [] (bit_or y m) (closed me) (or_open m y k power (ap (is_marked m) word ∙ word_unmarked n m r.shape r.pushed)
          ∙ ap (λ (z : ℕ). z + m) word ∙ (let f : word_at n m r.pushed + m ≡ word_at n m r.pushed + 1 * m = omega arith in f))
          ((r.pushed, refl), still_shut s r id me at)
      go (suc zero) once is = let y : ℕ = get_or s.words 0 0 in
          subst (Goes s 0 id me (closed me))
          (sym (or_shut m y k power (ap (is_marked m) r.tail_is ∙ marked_by n m r.shape r.pushed r.shut r.shut_once
          ∙ ap (λ (z : ℕ). z == 1) is)))
          (stands s r 0 id me (closed me) (doing SawTail r.pushed 0 y 0 me.0.mark true (y ∷ [])) (
            le_refl r.pushed,
            (r.shut, r.shut_once, r.tail_is),
          ) ((r.each_view id me.0 at).0, λ _. is) ((r.pushed, refl), still_shut s r id me at))
      go (suc (suc z)) once is = absurd (omega arith)

  pub closes : (c id : ℕ) (me : Known T) (mark k : ℕ) → mark ≡ m → m ≡ 2 ^ k
      → Allows (BoundedRule {T = T} n m) c id me 0 (λ y. bit_or y mark) (closed me)
  closes c id me mark k same power =
      subst (λ (z : ℕ). Allows (BoundedRule {T = T} n m) c id me 0 (λ y. bit_or y z) (closed me)) (sym same) (closes_by c id me k power)

  -- a seat comes, by a load of any word
  pub enters : (c i : ℕ) → Enters (BoundedRule {T = T} n m) c i (λ x w. looked {T = T} (doing Idle 0 0 0 0 m false [], []) x (w, []))
  enters c i s r wide _ = let x : ℕ = get_or s.words i 0 in let w = doing Idle 0 0 0 0 m false (x ∷ []) in (
    w,
    reviewed n m s r (s.views ++ w ∷ [])
        (λ j d e. ⊎_elim (r.each_seat j d)
        (λ (is : w ≡ d). subst (λ (z : Doing). Knows n m r.pushed r.popped j z.at z.place z.word z.stamp (r.cells z.place) z.stage) is
        tt)
        (at_snoc s.views w d j e))
        (λ j d e. ⊎_elim (r.each_view j d) (λ (is : w ≡ d). subst (Keeps m r.shut) is (refl, λ knew. absurd (true≢false (sym knew))))
        (at_snoc s.views w d j e)),
    refl,
  )

blank : {T : Type 0} (n i : ℕ) → i < n → get_elem? (map some (replicate {A = Option T} n None)) i ≡ some (some None)
blank zero i near = absurd (omega arith)
blank (suc n) zero near = refl
blank (suc n) (suc i) near = blank n i (omega arith)

starts : {T : Type 0} (n m : ℕ) (ws : List ℕ) → IsShape n m → AreNewWords n ws
    → BoundedRule {T = T} n m (opening ws (replicate n None) (doing Idle 0 0 0 0 m false []))
starts {T} n m ws s new = let xs : List (Option T) = replicate n None in let pos : 0 < n = s.some in record {
  shape = s;
  pushed = 0;
  popped = 0;
  shut = 0;
  cells = λ i. (i, free);
  shut_once = omega arith;
  places = length-map xs some ∙ length-replicate n None;
  wide = new.wide;
  tail_is = new.tail ∙ sym (first_word n m s 0 pos) ∙ sym (bare n m s 0 0 refl);
  head_is = new.head ∙ sym (first_word n m s 0 pos);
  behind = omega arith;
  within = omega arith;
  each_cell = λ i near. record {
    shows = ap (λ (z : ℕ). z + 0) (new.stamps i near ∙ sym (first_word n m s i near));
    lies = mod-eq_of_lt near;
    freed = omega arith;
    waits = omega arith;
    phase = (omega arith, blank n i near);
  };
  each_seat = λ j d e. ⊎_elim (λ (x : get_elem? [] j ≡ some d). absurd (maybe.some-ne-none d (sym x)))
      (λ (x : doing Idle 0 0 0 0 m false [] ≡ d). subst
      (λ (y : Doing). Knows n m 0 0 j y.at y.place y.word y.stamp (y.place, free) y.stage) x tt)
      (at_snoc [] (doing Idle 0 0 0 0 m false []) d j e);
  each_view = λ j d e. ⊎_elim (λ (x : get_elem? [] j ≡ some d). absurd (maybe.some-ne-none d (sym x)))
      (λ (x : doing Idle 0 0 0 0 m false [] ≡ d). subst (Keeps m 0) x (refl, λ knew. absurd (true≢false (sym knew))))
      (at_snoc [] (doing Idle 0 0 0 0 m false []) d j e);
}

pub starts_at : {T : Type 0} (n m : ℕ) (ws : List ℕ) (places : ℕ) → n ≡ places → IsShape n m → AreNewWords places ws
    → BoundedRule {T = T} n m (opening ws (replicate places None) (doing Idle 0 0 0 0 m false []))
starts_at {T} n m ws places same s new =
    subst (λ (z : ℕ). BoundedRule {T = T} n m (opening ws (replicate z None) (doing Idle 0 0 0 0 m false []))) same
    (starts n m ws s (subst (λ (z : ℕ). AreNewWords z ws) (sym same) new))
