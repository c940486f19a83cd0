-- Each step keeps the rule of the single slot.
use Rattle.std.proofs.Common.{◌≡◌, ◌≢◌, ℕ, zero, suc, true, false, ◌==◌, ◌+◌, ◌-◌, ◌*◌, ◌%◌, ◌^◌, ◌<◌, ◌≤◌, eqb, bit_or, List, [], ◌∷◌}
use Rattle.std.proofs.Common.{◌++◌, get_or, set, map, sym, refl, ap, ◌∙◌, subst, ⊎_elim, true≢false, arith}
use mathlib.Core.Option.{none, some, some-injective, some-ne-none}
use lib.ListN.{get_elem?}
use prog.Atomic.{either}
use Rattle.std.specs.Prelude.{Option, Some, None}
use Rattle.atomic_table.specs.Table.{State, Act, keeps, takes, gives, Valid, carried_after, stepped, Allows, Enters, opening}
use Rattle.atomic_table.proofs.Lists.{at_set, at_snoc, exchanged}
use Rattle.concurrent_queue.specs.declared.single.rule.Doing.{Doing}
use Rattle.concurrent_queue.specs.declared.single.rule.Stage.{Stage}
use Rattle.concurrent_queue.specs.declared.single.rule.Stage.TheVariants.{Idle, Writing, Reading}
use Rattle.queue_steps.specs.Single.{marks_of}
use Rattle.concurrent_queue.specs.SingleRule.{Phase, empty, full, writing, reading, marks, home, Knows, SingleRule, doing, is_shut, Known}
use Rattle.concurrent_queue.specs.SingleRule.{began, closed, looked, claimed, fetched, returned}

abbrev St : Type 0 → Type 0
St T = State (Option T) Doing

one_if : (k : ℕ) → k ≤ 1 → (k == 1) ≡ true → k ≡ 1
one_if zero le e = absurd (true≢false (sym e))
one_if (suc zero) le e = refl
one_if (suc (suc k)) le e = absurd (omega arith)

module _ {T : Type 0} where
  -- the seat that has the slot, and one more
  abbrev holder : Phase T → ℕ
  holder empty = 0
  holder (full x) = 0
  holder (writing j) = suc j
  holder (reading j) = suc j

  -- an open word that is not locked: the slot is at home, with what the word says
  is_open : (ph : Phase T) (k : ℕ) (old : ℕ) → marks ph + 4 * k ≡ old → old < 4 → old % 2 ≡ 0
      → (held : Option T) × (marks_of held ≡ old) × (home ph ≡ some held) × (holder ph ≡ 0) × (k ≡ 0)
  is_open empty k old e low even = (None, omega arith, refl, refl, omega arith)
  is_open (full x) k old e low even = (Some x, omega arith, refl, refl, omega arith)
  is_open (writing j) k old e low even = absurd (omega arith)
  is_open (reading j) k old e low even = absurd (omega arith)

  is_full : (ph : Phase T) (k : ℕ) → (marks ph + 4 * k) % 4 ≡ 2 → (x : T) × (ph ≡ full x)
  is_full empty k e = absurd (omega arith)
  is_full (full x) k e = (x, refl)
  is_full (writing j) k e = absurd (omega arith)
  is_full (reading j) k e = absurd (omega arith)

  -- a seat that does not have the slot knows nothing of the phase
  idle_if : (ph ph' : Phase T) (j : ℕ) → holder ph ≢ suc j → (st : Stage) → Knows ph j st → Knows ph' j st
  idle_if ph ph' j not Idle k = tt
  idle_if ph ph' j not Writing k = absurd (not (ap holder k))
  idle_if ph ph' j not Reading k = absurd (not (ap holder k))

  -- the mark of a word, and whether the rule has it closed
  mark_shows : (ph : Phase T) (k : ℕ) → k ≤ 1 → is_shut (marks ph + 4 * k) ≡ (k == 1)
  mark_shows ph (suc (suc k)) le = absurd (omega arith)
  mark_shows empty zero le = refl
  mark_shows (full x) zero le = refl
  mark_shows (writing j) zero le = refl
  mark_shows (reading j) zero le = refl
  mark_shows empty (suc zero) le = refl
  mark_shows (full x) (suc zero) le = refl
  mark_shows (writing j) (suc zero) le = refl
  mark_shows (reading j) (suc zero) le = refl

  shows : (s : St T) (r : SingleRule s) → get_or s.words 0 0 ≡ marks r.phase + 4 * r.shut
  shows s r = ap (λ (ws : List ℕ). get_or ws 0 0) r.word

  found_shut : (s : St T) (r : SingleRule s) → is_shut (get_or s.words 0 0) ≡ true → r.shut ≡ 1
  found_shut s r told = one_if r.shut r.shut_once (sym (mark_shows r.phase r.shut r.shut_once) ∙ ap is_shut (sym (shows s r)) ∙ told)

  still_shut : (s : St T) (r : SingleRule s) (id : ℕ) (me : Known T) → get_elem? s.views id ≡ some me.0 → me.0.closed ≡ true
      → is_shut (get_or s.words 0 0) ≡ true
  still_shut s r id me at knew = ap is_shut (shows s r) ∙ mark_shows r.phase r.shut r.shut_once
      ∙ ap (λ (k : ℕ). k == 1) (r.stays_closed id me.0 at knew)

  made : (s : St T) (r : SingleRule s) (id : ℕ) (w : Doing) (ph : Phase T) (shut : ℕ) (words' : List ℕ) (homes' : _) → shut ≤ 1
      → words' ≡ (marks ph + 4 * shut) ∷ [] → homes' ≡ (home ph) ∷ [] → Knows ph id w.stage
      → (w.closed ≡ true → shut ≡ 1) → (r.shut ≡ 1 → shut ≡ 1) → ((j : ℕ) → j ≢ id → (st : Stage) → Knows r.phase j st → Knows ph j st)
      → SingleRule record { words = words'; homes = homes'; views = set s.views id w }
  made s r id w ph shut words' homes' once word place mine knows stays others = record {
    phase = ph;
    shut = shut;
    shut_once = once;
    word = word;
    place = place;
    each_seat = λ j d e. ⊎_elim (λ t. subst (λ (z : Doing). Knows ph j z.stage) t.1 (subst (λ (i : ℕ). Knows ph i w.stage) (sym t.0) mine))
        (λ t. others j t.0 d.stage (r.each_seat j d t.1)) (at_set s.views id j w d e);
    stays_closed =
        λ j d e told. ⊎_elim (λ t. knows (ap (λ (z : Doing). z.closed) t.1 ∙ told)) (λ t. stays (r.stays_closed j d t.1 told))
        (at_set s.views id j w d e);
  }

  abbrev Goes : St T → ℕ → Known T → (ℕ → Known T → Type 0) → ℕ → Type 0
  Goes s id me then x = (w : Doing) × (a : Act (Option T)) × Valid s.homes me.1 a × SingleRule (stepped s 0 x id me.1 w a) ×
      then (get_or s.words 0 0) (w, carried_after me.1 a)

  -- the word stays, and the seat has no slot
  looks : (s : St T) (r : SingleRule s) (id : ℕ) (me : Known T) (found : List ℕ) (then : ℕ → Known T → Type 0)
      → then (get_or s.words 0 0) (doing Idle (is_shut (get_or s.words 0 0)) found, me.1) → Goes s id me then (get_or s.words 0 0)
  looks s r id me found then told = let w = doing Idle (is_shut (get_or s.words 0 0)) found in (
    w,
    keeps,
    tt,
    made s r id w r.phase r.shut _ s.homes r.shut_once (ap (λ (ws : List ℕ). set ws 0 (get_or ws 0 0)) r.word) r.place tt (found_shut s r)
        (λ e. e) (λ j ne st k. k),
    told,
  )

  pub begins : (n id : ℕ) (me : Known T) → Allows (SingleRule {T = T}) n id me 0 (λ x. x) (began me)
  begins n id me s r wide at small = looks s r id me _ (began me) (refl, still_shut s r id me at)

  pub sees : (n id : ℕ) (me : Known T) → Allows (SingleRule {T = T}) n id me 0 (λ x. x) (looked me)
  sees n id me s r wide at small = looks s r id me _ (looked me) (refl, still_shut s r id me at)

  pub claims : (n id : ℕ) (me : Known T) (old new : ℕ) → old < 4 → old % 2 ≡ 0 → new ≡ 3
      → Allows (SingleRule {T = T}) n id me 0 (λ y. either (eqb y old) new y) (claimed old me)
  claims n id me old new low even is s r wide at small = let y : ℕ = get_or s.words 0 0 in
      exchanged y old new (Goes s id me (claimed old me))
      (λ hit. let e = is_open r.phase r.shut old (sym (shows s r) ∙ hit) low even in let held : Option T = e.0 in
      let w = doing Writing (is_shut y) (me.0.found ++ y ∷ []) in (
        w,
        takes 0 held,
        ap (λ hs. get_elem? hs 0) r.place ∙ ap some e.2,
        made s r id w (writing id) 0 (set s.words 0 new) (set s.homes 0 none) (omega arith) (ap (λ (ws : List ℕ). set ws 0 new) r.word
            ∙ ap (λ (z : ℕ). z ∷ []) is) (ap (λ hs. set hs 0 none) r.place) refl (λ told. sym e.4 ∙ found_shut s r told) (λ one. sym e.4
            ∙ one)
            (λ j ne. idle_if r.phase (writing id) j (λ h. let z : 0 ≡ suc j = sym e.3 ∙ h in omega arith)),
        ((λ _. (held, e.1, refl)), (λ miss. absurd (miss hit)), still_shut s r id me at),
      ))
      (λ miss. looks s r id me _ (claimed old me) (
        (λ hit. absurd (miss hit)),
        (λ _. (refl, still_shut s r id me at)),
        still_shut s r id me at,
      ))

  pub takes_item : (n id : ℕ) (me : Known T) (old new : ℕ) → old % 4 ≡ 2 → new + 1 ≡ old
      → Allows (SingleRule {T = T}) n id me 0 (λ y. either (eqb y old) new y) (fetched old me)
  takes_item n id me old new was is s r wide at small = let y : ℕ = get_or s.words 0 0 in
      exchanged y old new (Goes s id me (fetched old me))
      (λ hit. let word : marks r.phase + 4 * r.shut ≡ old = sym (shows s r) ∙ hit in
      let e = is_full r.phase r.shut (ap (λ (z : ℕ). z % 4) word ∙ was) in let x : T = e.0 in
      let two : marks r.phase ≡ 2 = ap marks e.1 in let next : new ≡ 1 + 4 * r.shut = omega arith in
      let w = doing Reading (is_shut y) (me.0.found ++ y ∷ []) in (
        w,
        takes 0 (Some x),
        ap (λ hs. get_elem? hs 0) r.place ∙ ap (λ (ph : Phase T). some (home ph)) e.1,
        made s r id w (reading id) r.shut (set s.words 0 new) (set s.homes 0 none) r.shut_once (ap (λ (ws : List ℕ). set ws 0 new) r.word
            ∙ ap (λ (z : ℕ). z ∷ []) next) (ap (λ hs. set hs 0 none) r.place) refl (found_shut s r) (λ one. one)
            (λ j ne. idle_if r.phase (reading id) j (λ h. let z : 0 ≡ suc j = sym (ap holder e.1) ∙ h in omega arith)),
        ((λ _. (x, refl)), (λ miss. absurd (miss hit)), still_shut s r id me at),
      ))
      (λ miss. looks s r id me _ (fetched old me) (
        (λ hit. absurd (miss hit)),
        (λ _. (refl, still_shut s r id me at)),
        still_shut s r id me at,
      ))

  -- the holder clears the lock, and the slot goes home
  gives_back : (n id : ℕ) (me : Known T) (y : Option T) (more : List (ℕ × Option T)) (ph ph' : Phase T) → marks ph ≡ marks ph' + 1
      → home ph' ≡ some y → holder ph ≡ suc id → me.1 ≡ (0, y) ∷ more
      → (s : St T) (r : SingleRule s) → get_elem? s.views id ≡ some me.0 → r.phase ≡ ph
      → Goes s id me (returned me) ((get_or s.words 0 0 + (2 ^ 64 - 1)) % 2 ^ 64)
  gives_back n id me y more ph ph' less lies mine has s r at is = let x : ℕ = get_or s.words 0 0 in
      let w = doing Idle (is_shut x) (me.0.found ++ x ∷ []) in
      let word : x ≡ marks ph + 4 * r.shut = shows s r ∙ ap (λ (z : Phase T). marks z + 4 * r.shut) is in
      let a : ℕ = marks ph in let b : ℕ = marks ph' in let less' : a ≡ b + 1 = less in let k : ℕ = r.shut in
      let once : k ≤ 1 = r.shut_once in let low : b ≤ 3 = at_most ph' in
      let word' : x ≡ a + 4 * k = word in
      let next : (x + (2 ^ 64 - 1)) % 2 ^ 64 ≡ b + 4 * k = omega arith in
      let put : set s.homes 0 (some y) ≡ (home ph') ∷ [] = ap (λ hs. set hs 0 (some y)) r.place ∙ ap (λ h. h ∷ []) (sym lies) in (
        w,
        gives,
        tt,
        subst (λ (c : List (ℕ × Option T)). SingleRule (stepped s 0 ((x + (2 ^ 64 - 1)) % 2 ^ 64) id c w gives)) (sym has)
            (made s r id w ph' r.shut _ (set s.homes 0 (some y)) r.shut_once
            (ap (λ (ws : List ℕ). set ws 0 ((x + (2 ^ 64 - 1)) % 2 ^ 64)) r.word
            ∙ ap (λ (z : ℕ). z ∷ []) next) put tt (found_shut s r) (λ one. one)
            (λ j ne. idle_if r.phase ph' j (λ h. ne (let z : suc id ≡ suc j = sym mine ∙ ap holder (sym is) ∙ h in omega arith)))),
        (refl, still_shut s r id me at),
      ) where
        at_most : (p : Phase T) → marks p ≤ 3
        at_most empty = omega arith
        at_most (full x) = omega arith
        at_most (writing j) = omega arith
        at_most (reading j) = omega arith

  pub written : (n id : ℕ) (me : Known T) (x : T) (more : List (ℕ × Option T)) → me.0.stage ≡ Writing → me.1 ≡ (0, Some x) ∷ more
      → Allows (SingleRule {T = T}) n id me 0 (λ y. (y + (2 ^ 64 - 1)) % 2 ^ 64) (returned me)
  written n id me x more st has s r wide at small =
      gives_back n id me (Some x) more (writing id) (full x) refl refl refl has s r at
      (subst (Knows r.phase id) st (r.each_seat id me.0 at))

  pub read : (n id : ℕ) (me : Known T) (more : List (ℕ × Option T)) → me.0.stage ≡ Reading → me.1 ≡ (0, None) ∷ more
      → Allows (SingleRule {T = T}) n id me 0 (λ y. (y + (2 ^ 64 - 1)) % 2 ^ 64) (returned me)
  read n id me more st has s r wide at small =
      gives_back n id me None more (reading id) empty refl refl refl has s r at (subst (Knows r.phase id) st (r.each_seat id me.0 at))

  or_four : (ph : Phase T) (k : ℕ) → k ≤ 1 → bit_or (marks ph + 4 * k) 4 ≡ marks ph + 4
  or_four ph (suc (suc k)) le = absurd (omega arith)
  or_four empty zero le = refl
  or_four (full x) zero le = refl
  or_four (writing j) zero le = refl
  or_four (reading j) zero le = refl
  or_four empty (suc zero) le = refl
  or_four (full x) (suc zero) le = refl
  or_four (writing j) (suc zero) le = refl
  or_four (reading j) (suc zero) le = refl

  pub shuts : (n id : ℕ) (me : Known T) → Allows (SingleRule {T = T}) n id me 0 (λ y. bit_or y 4) (closed me)
  shuts n id me s r wide at small = let y : ℕ = get_or s.words 0 0 in let w = doing Idle true (y ∷ []) in (
    w,
    keeps,
    tt,
    made s r id w r.phase 1 (set s.words 0 (bit_or y 4)) s.homes (omega arith)
        (ap (λ (ws : List ℕ). set ws 0 (bit_or (get_or ws 0 0) 4)) r.word ∙ ap (λ (z : ℕ). z ∷ []) (or_four r.phase r.shut r.shut_once))
        r.place tt (λ _. refl) (λ _. refl) (λ j ne st k. k),
    (refl, still_shut s r id me at),
  )

  -- a seat comes
  pub enters : (n : ℕ) (v : Doing) → v.closed ≡ false → Enters (SingleRule {T = T}) n 0 (λ x w. began {T = T} (v, []) x (w, []))
  enters n v new s r wide small = let x : ℕ = get_or s.words 0 0 in let w = doing Idle (is_shut x) (x ∷ []) in (
    w,
    record {
      phase = r.phase;
      shut = r.shut;
      shut_once = r.shut_once;
      word = r.word;
      place = r.place;
      each_seat = λ j d e. ⊎_elim (λ t. r.each_seat j d t) (λ t. subst (λ (z : Doing). Knows r.phase j z.stage) t tt)
          (at_snoc s.views w d j e);
      stays_closed =
          λ j d e told. ⊎_elim (λ t. r.stays_closed j d t told) (λ t. found_shut s r (ap (λ (z : Doing). z.closed) t ∙ told))
          (at_snoc s.views w d j e);
    },
    (refl, λ knew. absurd (true≢false (sym knew ∙ new))),
  )

  pub starts : (n : ℕ) (k : ℕ) (xs : List (Option T)) → n ≡ 0 → k ≡ 1 → xs ≡ None ∷ []
      → SingleRule (opening (n ∷ []) xs (doing Idle false []))
  starts n k xs zero_ one is = record {
    phase = empty;
    shut = 0;
    shut_once = omega arith;
    word = ap (λ (z : ℕ). z ∷ []) zero_;
    place = ap (map some) is;
    each_seat = λ j d e. first_is j d e;
    stays_closed = λ j d e told. absurd (first_open j d e told);
  } where
    first_is : (j : ℕ) (d : Doing) → get_elem? (doing Idle false [] ∷ []) j ≡ some d → Knows {T = T} empty j d.stage
    first_is zero d e = subst (λ (z : Doing). Knows {T = T} empty zero z.stage) (some-injective _ _ e) tt
    first_is (suc j) d e = absurd (some-ne-none d (sym e))

    first_open : (j : ℕ) (d : Doing) → get_elem? (doing Idle false [] ∷ []) j ≡ some d → d.closed ≡ true → ⊥
    first_open zero d e told = true≢false (sym (ap (λ (z : Doing). z.closed) (some-injective _ _ e) ∙ told))
    first_open (suc j) d e told = some-ne-none d (sym e)
