-- Each step of a call on a ring, by the turn at which it stands. n is the number of places, m the mark.
use Rattle.std.proofs.lemmas.Bool.Decides.{nat_tests}
use Rattle.std.proofs.Common.{◌≡◌, inr, ℕ, ◌+◌, ◌*◌, ◌%◌, ◌<◌, ◌≤◌, List, [], ◌∷◌, length, drop, Bool, true, false, not, Option, Some, None}
use Rattle.std.proofs.Common.{◌==◌, if◌then◌else◌, sym, refl, ap, ◌∙◌, subst, arith}
use Rattle.queue_steps.specs.declared.bounded.Slot.{Slot}
use Rattle.queue_steps.specs.BoundedTurns.{Turn, Tail, Head, Stamp, HeadFor, TailFor, Append, Take, Displace, Advance, Spend, Fill, Drain}
use Rattle.queue_steps.specs.BoundedTurns.{End, Close as CloseTurn, answered, pushes_from, stamped_for_push, push_turn, force_push_turn}
use Rattle.queue_steps.specs.BoundedTurns.{pops_from, stamped_for_pop, pop_turn}
use Rattle.queue_steps.specs.Reply.{Done, Closed, Yes, No}
use Rattle.queue_steps.specs.ClosableQueue.{most_accepted, appended, shut}
use Rattle.queue_steps.specs.Calls.{Call, Push, ForcePush, Pop, Close, Answer, WasClosed, Acts}
use Rattle.queue_laws.specs.Moments.{Does, Sight, Progress, MayBeside, MayEnd, AtSome, WasOpenAndFull}
use Rattle.queue_steps.specs.Bounded.{IsShape, word_at, next_at, is_marked}
use Rattle.queue_laws.specs.SingleSteps.{answer_of, stored, is_yes}
use Rattle.queue_laws.specs.BoundedSteps.{Stands, BoundedWorld, with_at, moved, turn_moments, displaced}
use Rattle.queue_steps.proofs.BoundedWords.{index_of_word}
use Rattle.queue_laws.proofs.BoundedStamps.{bit, bare, marked, marked_is, one_count, one_tail, head_behind, a_lap_on}
use Rattle.queue_laws.proofs.BoundedState.{Ghost, Sure, up, age, queue_of, sight_of, Knows, Looks, Tied}
use Rattle.queue_laws.proofs.BoundedKnows.{length_is}
use Rattle.queue_laws.proofs.BoundedLooks.{Finds, push_tail, force_tail, push_stamped, force_stamped, push_head, force_head, pop_head}
use Rattle.queue_laws.proofs.BoundedLooks.{pop_stamp, pop_tail}
use Rattle.queue_laws.proofs.BoundedPuts.{Goes, near, looked}
use Rattle.queue_laws.proofs.BoundedHits.{append_hits, take_hits, displace_hits, shuts}
use Rattle.queue_laws.proofs.SingleLooks.{is_party}

module _ {T : Type 0} (n m : ℕ) (shape : IsShape n m) (w : BoundedWorld T) (g : Ghost T) (calls : ℕ → Option (Progress T))
    (tied : Tied n m w g calls) (p : ℕ) (k : Progress T) (at : calls p ≡ Some k) where
  abbrev IsNow : Type 0
  IsNow = (older : List (Sight T)) × (k.seen ≡ sight_of n m g ∷ older)

  abbrev Found : Call T → Turn → Type 0
  Found call t = Finds n m shape g tied.base call t k.seen

  abbrev Then : Call T → Turn → Type 0
  Then call t = Goes n m shape w g calls (turn_moments n m w p call t) (moved n m w p call t)

  -- what was found by the counts was found by the words
  pub on_tail : (call : Call T) (next : ℕ → Turn) → (seen : IsNow)
      → Finds n m shape g tied.base call (next (word_at n m g.pushed + bit g.shut * m)) (sight_of n m g ∷ seen.0)
      → Found call (next w.tail)
  on_tail call next seen finds =
      subst (λ (t : ℕ). Found call (next t)) (sym tied.tail)
      (subst (λ (s : List (Sight T)). Finds n m shape g tied.base call (next (word_at n m g.pushed + bit g.shut * m)) s) (sym seen.1) finds)

  pub on_head : (call : Call T) (next : ℕ → Turn) → (seen : IsNow)
      → Finds n m shape g tied.base call (next (word_at n m g.popped)) (sight_of n m g ∷ seen.0) → Found call (next w.head)
  on_head call next seen finds =
      subst (λ (t : ℕ). Found call (next t)) (sym tied.head)
      (subst (λ (s : List (Sight T)). Finds n m shape g tied.base call (next (word_at n m g.popped)) s) (sym seen.1) finds)

  on_stamp : (call : Call T) (next : ℕ → ℕ → Turn) (t c : ℕ) → t ≡ word_at n m c
      → Found call (next (word_at n m c) (word_at n m (g.cells (c % n)).round + up (g.cells (c % n)).phase))
      → Found call (next t (w.slots (t % m)).stamp)
  on_stamp call next t c is finds =
      subst (λ (u : ℕ). Found call (next u (w.slots (u % m)).stamp)) (sym is)
      (subst (λ (s : ℕ). Found call (next (word_at n m c) s))
      (sym (ap (λ (i : ℕ). (w.slots i).stamp) (index_of_word n m shape c)
      ∙ ap (λ (s : Slot T). s.stamp) (tied.slots (c % n) (near n m shape c)))) finds)

  round_of : (c : ℕ) → (g.cells (c % n)).round % n ≡ c % n
  round_of c = grind (arith, nat_tests)

  append_by : (call : Call T) (x : T) (t c : ℕ) → w.places p ≡ Stands call (Append t) → k.call ≡ call → IsNow → k.answer ≡ None
      → stored call None ≡ Some x
      → t ≡ word_at n m c → c < most_accepted → 2 * c ≤ age (g.cells (c % n))
      → (g.shut ≡ false → g.pushed < most_accepted → g.pushed < g.popped + n
      → Acts (queue_of n m g) call (answer_of call Done None) (appended (queue_of n m g) x))
      → Found call (pushes_from n m w.tail)
      → Goes n m shape w g calls (if w.tail == t then Does p (answer_of call Done None) ∷ [] else [])
      (record {
        tail = if w.tail == t then next_at n m t else w.tail;
        head = w.head;
        slots = w.slots;
        places =
            with_at w.places p (Stands call (if w.tail == t then Fill t Done else pushes_from n m w.tail));
      })
  append_by call x t c is of seen none stores word few aged acts misses = by (w.tail == t) refl
    where
      by : (b : Bool) → (w.tail == t) ≡ b → Goes n m shape w g calls (if b then Does p (answer_of call Done None) ∷ [] else [])
          (record {
            tail = if b then next_at n m t else w.tail;
            head = w.head;
            slots = w.slots;
            places =
                with_at w.places p (Stands call (if b then Fill t Done else pushes_from n m w.tail));
          })
      by true e =
          let one = one_tail n m shape g.pushed c g.shut (grind (arith, nat_tests)) in
          let same : t ≡ word_at n m g.pushed = word ∙ ap (word_at n m) (sym one.0) in
          let less : g.pushed < most_accepted = (let z = one.0 in omega arith) in
          subst (λ (u : ℕ). Goes n m shape w g calls (Does p (answer_of call Done None) ∷ [])
          (record { tail = next_at n m u; head = w.head; slots = w.slots; places = with_at w.places p (Stands call (Fill t Done)) }))
          (sym same)
          (append_hits n m shape w g calls tied p k at call x (Fill t Done) (grind (arith, nat_tests))
          (grind (arith, nat_tests)) of none stores one.1 less
          (grind (arith, nat_tests)) (λ room. acts one.1 less room))
      by false e = looked n m shape w g calls tied p call (Append t) (pushes_from n m w.tail) is refl k at of seen none misses

  spend_by : (call : Call T) (t c : ℕ) → w.places p ≡ Stands call (Spend t) → k.call ≡ call → IsNow → k.answer ≡ None
      → t ≡ word_at n m c → most_accepted ≤ c
      → (g.shut ≡ false → g.pushed ≡ c → g.pushed ≡ most_accepted
      → Acts (queue_of n m g) call (answer_of call Closed None) (shut (queue_of n m g)))
      → ((j : ℕ × T) → MayBeside (Some j) (answer_of call Closed None)) → Found call (pushes_from n m w.tail)
      → Goes n m shape w g calls (if w.tail == t then Does p (answer_of call Closed None) ∷ [] else [])
      (record {
        tail = if w.tail == t then w.tail + m else w.tail;
        head = w.head;
        slots = w.slots;
        places =
            with_at w.places p (Stands call (if w.tail == t then End Closed else pushes_from n m w.tail));
      })
  spend_by call t c is of seen none word most acts beside misses = by (w.tail == t) refl
    where
      by : (b : Bool) → (w.tail == t) ≡ b → Goes n m shape w g calls (if b then Does p (answer_of call Closed None) ∷ [] else [])
          (record {
            tail = if b then w.tail + m else w.tail;
            head = w.head;
            slots = w.slots;
            places =
                with_at w.places p (Stands call (if b then End Closed else pushes_from n m w.tail));
          })
      by true e =
          let one = one_tail n m shape g.pushed c g.shut (grind (arith, nat_tests)) in
          shuts n m shape w g calls tied p k at call (End Closed) (answer_of call Closed None) (w.tail + m)
          (grind (arith, nat_tests)) of none
          (grind (arith, nat_tests)) beside
          (grind (arith, nat_tests))
          (λ k' told. subst (λ (o : Option (Answer T)). MayEnd k' o (answer_of call Closed None)) (sym told) refl)
      by false e = looked n m shape w g calls tied p call (Spend t) (pushes_from n m w.tail) is refl k at of seen none misses

  room_is : g.pushed < g.popped + n → length (drop g.popped g.all) < n
  room_is room = let l = length_is n m g tied.base in omega arith

  pub push_by : (x : T) (t : Turn) → w.places p ≡ Stands (Push x) t → k.call ≡ Push x → IsNow → k.answer ≡ None
      → Looks n m g (Push x) t k.seen → Then (Push x) t
  push_by x Tail is of seen none h =
      looked n m shape w g calls tied p (Push x) Tail (pushes_from n m w.tail) is refl k at of seen none
      (on_tail (Push x) (pushes_from n m) seen (push_tail n m shape g tied.base x seen.0))
  push_by x (Stamp t) is of seen none h =
      let f = h.1 in let known = subst (Knows n m g k.seen) f.2 h.2 in
      looked n m shape w g calls tied p (Push x) (Stamp t) (stamped_for_push n m t (w.slots (t % m)).stamp) is refl k at of seen none
      (on_stamp (Push x) (stamped_for_push n m) t f.0 f.1 (push_stamped n m shape g tied.base x k.seen f.0 (round_of f.0) known.0 known.1))
  push_by x (HeadFor t) is of seen none h =
      let f = h.1 in let known = subst (Knows n m g k.seen) f.2 h.2 in
      looked n m shape w g calls tied p (Push x) (HeadFor t) (push_turn n m (HeadFor t) w.head) is refl k at of seen none
      (subst (λ (u : ℕ). Found (Push x) (push_turn n m (HeadFor u) w.head)) (sym f.1)
      (subst (λ (u : ℕ). Found (Push x) (push_turn n m (HeadFor (word_at n m (f.0 + n))) u)) (sym tied.head)
      (push_head n m shape g tied.base x f.0 k.seen known.0.1)))
  push_by x (Append t) is of seen none h =
      let f = h.1 in let known = subst (Knows n m g k.seen) f.3 h.2 in
      append_by (Push x) x t f.0 is of seen none refl f.1 f.2 known.1 (λ opened few room. ((opened, room_is room, few), refl))
      (on_tail (Push x) (pushes_from n m) seen (push_tail n m shape g tied.base x seen.0))
  push_by x (Spend t) is of seen none h =
      let f = h.1 in let known = subst (Knows n m g k.seen) f.3 h.2 in
      spend_by (Push x) t f.0 is of seen none f.1 f.2
      (λ opened same most. (
        inr (opened, most, refl),
        (λ o. room_is (grind (arith, nat_tests))),
        refl,
      ))
      (λ j. tt) (on_tail (Push x) (pushes_from n m) seen (push_tail n m shape g tied.base x seen.0))
  push_by x _ is of seen none h = absurd h.1

  displace_by : (x : T) (t q : ℕ) → w.places p ≡ Stands (ForcePush x) (Displace t) → k.call ≡ ForcePush x → IsNow → k.answer ≡ None
      → t ≡ word_at n m (q + n) → q + n < most_accepted → q + n ≤ g.pushed → AtSome WasOpenAndFull k.seen
      → 2 * q + 1 ≤ age (g.cells (q % n))
      → Then (ForcePush x) (Displace t)
  displace_by x t q is of seen none word few past opened aged = by (w.head + 2 * m == t) refl
    where
      by : (b : Bool) → (w.head + 2 * m == t) ≡ b → Goes n m shape w g calls (if b then displaced n m p (w.slots (t % m)).value else [])
          (record {
            tail = w.tail;
            head = if b then next_at n m w.head else w.head;
            slots = w.slots;
            places =
                with_at w.places p (Stands (ForcePush x) (if b then Advance t else Tail));
          })
      by true e =
          let same : g.popped ≡ q =
          (let z = (head_behind n m shape (q + n) false g.popped (grind (arith, nat_tests))).0 in omega arith) in
          let whole : g.popped + n ≡ g.pushed = (let z = tied.base.within in omega arith) in
          let turn_is : Advance t ≡ Advance (word_at n m (g.popped + n)) =
          ap Advance (grind (arith, nat_tests)) in
          let place_is : g.popped % n ≡ t % m =
          sym (ap (λ (z : ℕ). z % m) word ∙ index_of_word n m shape (q + n) ∙ a_lap_on n q ∙ ap (λ (z : ℕ). z % n) (sym same)) in
          subst (λ (i : ℕ). Goes n m shape w g calls (displaced n m p (w.slots i).value)
          (record {
            tail = w.tail;
            head = next_at n m w.head;
            slots = w.slots;
            places =
                with_at w.places p (Stands (ForcePush x) (Advance t));
          })) place_is
          (subst (λ (h : ℕ). Goes n m shape w g calls (displaced n m p (w.slots (g.popped % n)).value)
          (record {
            tail = w.tail;
            head = next_at n m h;
            slots = w.slots;
            places =
                with_at w.places p (Stands (ForcePush x) (Advance t));
          })) (sym tied.head)
          (displace_hits n m shape w g calls tied p k at x (Advance t) turn_is (grind (arith, nat_tests))
          of none whole (let z = whole in omega arith) opened
          (grind (arith, nat_tests))))
      by false e = looked n m shape w g calls tied p (ForcePush x) (Displace t) Tail is refl k at of seen none (Sure, refl, tt)

  pub force_by : (x : T) (t : Turn) → w.places p ≡ Stands (ForcePush x) t → k.call ≡ ForcePush x → IsNow → k.answer ≡ None
      → Looks n m g (ForcePush x) t k.seen → Then (ForcePush x) t
  force_by x Tail is of seen none h =
      looked n m shape w g calls tied p (ForcePush x) Tail (pushes_from n m w.tail) is refl k at of seen none
      (on_tail (ForcePush x) (pushes_from n m) seen (force_tail n m shape g tied.base x seen.0))
  force_by x (Stamp t) is of seen none h =
      let f = h.1 in let known = subst (Knows n m g k.seen) f.2 h.2 in
      looked n m shape w g calls tied p (ForcePush x) (Stamp t) (stamped_for_push n m t (w.slots (t % m)).stamp) is refl k at of seen none
      (on_stamp (ForcePush x) (stamped_for_push n m) t f.0 f.1
      (force_stamped n m shape g tied.base x k.seen f.0 (round_of f.0) known.0 known.1))
  force_by x (HeadFor t) is of seen none h =
      let f = h.1 in let known = subst (Knows n m g k.seen) f.2 h.2 in
      looked n m shape w g calls tied p (ForcePush x) (HeadFor t) (force_push_turn n m (HeadFor t) w.head) is refl k at of seen none
      (subst (λ (u : ℕ). Found (ForcePush x) (force_push_turn n m (HeadFor u) w.head)) (sym f.1)
      (subst (λ (u : ℕ). Found (ForcePush x) (force_push_turn n m (HeadFor (word_at n m (f.0 + n))) u)) (sym tied.head)
      (force_head n m shape g tied.base x f.0 k.seen known.0.0 known.0.1 known.1)))
  force_by x (Append t) is of seen none h =
      let f = h.1 in let known = subst (Knows n m g k.seen) f.3 h.2 in
      append_by (ForcePush x) x t f.0 is of seen none refl f.1 f.2 known.1 (λ opened few room. ((opened, room_is room, few), refl))
      (on_tail (ForcePush x) (pushes_from n m) seen (force_tail n m shape g tied.base x seen.0))
  force_by x (Spend t) is of seen none h =
      let f = h.1 in
      spend_by (ForcePush x) t f.0 is of seen none f.1 f.2 (λ opened same most. (inr (opened, most, refl), refl))
      (λ j. tt) (on_tail (ForcePush x) (pushes_from n m) seen (force_tail n m shape g tied.base x seen.0))
  force_by x (Displace t) is of seen none h =
      let f = h.1 in let known = subst (Knows n m g k.seen) f.3 h.2 in
      displace_by x t f.0 is of seen none f.1 f.2 known.0.0 known.0.1 known.1
  force_by x _ is of seen none h = absurd h.1

  take_by : (h q : ℕ) → w.places p ≡ Stands Pop (Take h) → k.call ≡ Pop → IsNow → k.answer ≡ None → h ≡ word_at n m q
      → 2 * q + 1 ≤ age (g.cells (q % n)) → Then Pop (Take h)
  take_by h q is of seen none word aged = by (w.head == h) refl
    where
      by : (b : Bool) → (w.head == h) ≡ b
          → Goes n m shape w g calls (if b then Does p (answer_of {T = T} Pop Done (w.slots (h % m)).value) ∷ [] else [])
          (record {
            tail = w.tail;
            head = if b then next_at n m h else w.head;
            slots = w.slots;
            places =
                with_at w.places p (Stands Pop (if b then Drain h else pops_from n m w.head));
          })
      by true e =
          let one : word_at n m g.popped ≡ word_at n m q = sym tied.head ∙ is_party w.head h e ∙ word in
          let same : g.popped ≡ q = one_count n m shape g.popped q one in
          let here : h ≡ word_at n m g.popped = word ∙ sym one in
          subst (λ (i : ℕ). Goes n m shape w g calls (Does p (answer_of {T = T} Pop Done (w.slots i).value) ∷ [])
          (record { tail = w.tail; head = next_at n m h; slots = w.slots; places = with_at w.places p (Stands Pop (Drain h)) }))
          (sym (ap (λ (z : ℕ). z % m) here ∙ index_of_word n m shape g.popped))
          (subst (λ (u : ℕ). Goes n m shape w g calls (Does p (answer_of {T = T} Pop Done (w.slots (g.popped % n)).value) ∷ [])
          (record { tail = w.tail; head = next_at n m u; slots = w.slots; places = with_at w.places p (Stands Pop (Drain h)) }))
          (sym here)
          (take_hits n m shape w g calls tied p k at (Drain h) (ap Drain here) (grind (arith, nat_tests))
          of none
          (grind (arith, nat_tests))))
      by false e =
          looked n m shape w g calls tied p Pop (Take h) (pops_from n m w.head) is refl k at of seen none
          (on_head Pop (pops_from n m) seen (pop_head n m shape g tied.base seen.0))

  pub pop_by : (t : Turn) → w.places p ≡ Stands Pop t → k.call ≡ Pop → IsNow → k.answer ≡ None → Looks n m g Pop t k.seen → Then Pop t
  pop_by Head is of seen none h =
      looked n m shape w g calls tied p Pop Head (pops_from n m w.head) is refl k at of seen none
      (on_head Pop (pops_from n m) seen (pop_head n m shape g tied.base seen.0))
  pop_by (Stamp t) is of seen none h =
      let f = h.1 in let known = subst (Knows n m g k.seen) f.2 h.2 in
      looked n m shape w g calls tied p Pop (Stamp t) (stamped_for_pop n m t (w.slots (t % m)).stamp) is refl k at of seen none
      (on_stamp Pop (stamped_for_pop n m) t f.0 f.1 (pop_stamp n m shape g tied.base k.seen f.0 (round_of f.0) known))
  pop_by (Take t) is of seen none h =
      let f = h.1 in let known = subst (Knows n m g k.seen) f.2 h.2 in
      take_by t f.0 is of seen none f.1 known.1
  pop_by (TailFor t) is of seen none h =
      let f = h.1 in let known = subst (Knows n m g k.seen) f.2 h.2 in
      looked n m shape w g calls tied p Pop (TailFor t) (pop_turn n m (TailFor t) w.tail) is refl k at of seen none
      (subst (λ (u : ℕ). Found Pop (pop_turn n m (TailFor u) w.tail)) (sym f.1)
      (on_tail Pop (pop_turn n m (TailFor (word_at n m f.0))) seen (pop_tail n m shape g tied.base seen.0 f.0 tied.comes known.0 known.1)))
  pop_by _ is of seen none h = absurd h.1

  pub close_by : w.places p ≡ Stands Close CloseTurn → k.call ≡ Close → k.answer ≡ None → Then Close CloseTurn
  close_by is of none =
      shuts n m shape w g calls tied p k at Close (answered (not (is_marked m w.tail))) (WasClosed (not (is_marked m w.tail)))
      (if is_marked m w.tail then w.tail else w.tail + m)
      (grind (arith, nat_tests)) of none (ap not mark, refl) (λ j. tt) (tail_is g.shut refl)
      (λ k' told. subst (λ (o : Option (Answer T)). MayEnd k' o (WasClosed (is_yes (if not (is_marked m w.tail) then Yes else No))))
      (sym told) (ap WasClosed (told_yes (not (is_marked m w.tail)))))
    where
      mark : is_marked m w.tail ≡ g.shut
      mark = grind (arith, nat_tests, marked_is)

      told_yes : (b : Bool) → b ≡ is_yes (if b then Yes else No)
      told_yes true = refl
      told_yes false = refl

      word_is : (b : Bool) → g.shut ≡ b → w.tail ≡ word_at n m g.pushed + bit b * m
      word_is b e = grind (arith, nat_tests)

      tail_is : (b : Bool) → g.shut ≡ b → (if is_marked m w.tail then w.tail else w.tail + m) ≡ word_at n m g.pushed + bit true * m
      tail_is b e = grind (arith, nat_tests, mark, word_is, bare, marked)
