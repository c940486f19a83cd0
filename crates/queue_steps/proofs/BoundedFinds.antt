-- Where a lone call on a ring comes to by looking.
use Rattle.std.proofs.Common.{◌≡◌, ◌⊎◌, inl, inr, ℕ, ◌+◌, ◌*◌, ◌%◌, ◌<◌, List, slice_index_or, None, if◌then◌else◌, nat_lt, ◌==◌, Bool}
use Rattle.std.proofs.Common.{true, false, sym, refl, ap, ◌∙◌, subst, lt_of_not-le, lt-ltb, le-ltb, eq-eqb, ne_eqb, mod-lt, zero-mul}
use Rattle.std.proofs.Common.{arith}
use mathlib.Core.Logic.{dite}
use native.Mathlib.Decide.{dec_le}
use Rattle.std.proofs.lemmas.Bool.Decides.{nat_tests}
use Rattle.std.proofs.lemmas.List.{get_or_default}
use native.Mathlib.Nat.{add-mod_right}
use Rattle.queue_steps.specs.declared.bounded.Slot.{Slot}
use Rattle.queue_steps.specs.Reply.{Empty, Closed}
use Rattle.queue_steps.specs.BoundedTurns.{Turn, Tail, Head, Stamp, HeadFor, TailFor, Append, Take, Displace, Spend, End}
use Rattle.queue_steps.specs.ClosableQueue.{most_accepted}
use Rattle.queue_steps.specs.Bounded.{IsShape, word_at, count_at, is_marked}
use Rattle.queue_steps.specs.BoundedTurns.{pushes_from, appends_at, stamped_for_push, displaces_at, force_push_turn}
use Rattle.queue_steps.specs.BoundedTurns.{stamped_for_pop, pop_turn}
use Rattle.queue_steps.specs.BoundedCallTurns.{of_push, of_force_push, of_pop}
use Rattle.queue_steps.specs.declared.steps.bounded.PushTurn.{PushTurn}
use Rattle.queue_steps.specs.declared.steps.bounded.PushTurn.TheVariants as push
use Rattle.queue_steps.specs.declared.steps.bounded.ForcePushTurn.{ForcePushTurn}
use Rattle.queue_steps.specs.declared.steps.bounded.ForcePushTurn.TheVariants as force_push
use Rattle.queue_steps.specs.declared.steps.bounded.PopTurn.{PopTurn}
use Rattle.queue_steps.specs.declared.steps.bounded.PopTurn.TheVariants as pop
use Rattle.queue_steps.proofs.BoundedCallTurns.{closed_is, stamp_is, head_for_is, append_is, spend_is, displace_is, spend_too, take_is, tail_for_is}
use Rattle.queue_steps.proofs.BoundedCallTurns.{empty_is, closed_to_pop}
use Rattle.queue_steps.specs.BoundedAtRest.{slot_at, BoundedAtRest}
use Rattle.queue_steps.specs.BoundedEnds.{PushEnds, ForcePushEnds, PopEnds}
use Rattle.queue_steps.proofs.BoundedWords.{index_of, marked_by, count_of, index_of_word, count_of_word, word_a_lap_on}

module _ {T : Type 0} (n m tail head : ℕ) (slots : List (Slot T)) (s : IsShape n m) (r : BoundedAtRest n m tail head slots) where
  pub tail_index : tail % m ≡ r.pushed % n
  tail_index = ap (λ (x : ℕ). x % m) r.tail_is ∙ index_of n m s r.pushed r.shut

  pub head_index : head % m ≡ r.popped % n
  head_index = ap (λ (x : ℕ). x % m) r.head_is ∙ index_of_word n m s r.popped

  pub tail_count : count_at n m tail ≡ r.pushed
  tail_count = ap (count_at n m) r.tail_is ∙ count_of n m s r.pushed r.shut r.shut_once

  pub head_count : count_at n m head ≡ r.popped
  head_count = ap (count_at n m) r.head_is ∙ count_of_word n m s r.popped

  pub tail_marked : is_marked m tail ≡ (r.shut == 1)
  tail_marked = ap (is_marked m) r.tail_is ∙ marked_by n m s r.pushed r.shut r.shut_once

  pub tail_below : tail % m < n
  tail_below = subst (λ (x : ℕ). x < n) (sym tail_index) (mod-lt r.pushed s.some)

  pub head_below : head % m < n
  head_below = subst (λ (x : ℕ). x < n) (sym head_index) (mod-lt r.popped s.some)

  pub unmarked_is : is_marked m tail ≡ false → r.shut ≡ 0
  unmarked_is unmarked = let once = r.shut_once in let marked = sym tail_marked ∙ unmarked in grind (arith, nat_tests)

  -- the first look at the tail
  pub pushes_first : (t : Turn) → t ≡ pushes_from n m tail
      → ((t ≡ End Closed) × (is_marked m tail ≡ true)) ⊎ ((t ≡ Stamp tail) × (is_marked m tail ≡ false))
  pushes_first t is = by (is_marked m tail) refl
    where
      by : (b : Bool) → is_marked m tail ≡ b
          → ((t ≡ End Closed) × (is_marked m tail ≡ true)) ⊎ ((t ≡ Stamp tail) × (is_marked m tail ≡ false))
      by true e = inl (is ∙ ap (λ (b : Bool). if b then End Closed else (if nat_lt (tail % m) n then Stamp tail else Tail)) e, e)
      by false e = inr (
        is ∙ ap (λ (b : Bool). if b then End Closed else (if nat_lt (tail % m) n then Stamp tail else Tail)) e
            ∙ ap (λ (b : Bool). if b then Stamp tail else Tail) (lt-ltb (tail % m) n tail_below),
        e,
      )

  -- an unmarked tail is the word of its count
  pub open_tail : is_marked m tail ≡ false → tail ≡ word_at n m r.pushed
  open_tail unmarked = r.tail_is ∙ ap (λ (k : ℕ). word_at n m r.pushed + k * m) (unmarked_is unmarked) ∙ (omega (arith, zero-mul m))

  stamp_of : (d : Slot T) (i : ℕ) → i < n → (slice_index_or slots i d).stamp ≡ (slot_at slots i).stamp
  stamp_of d i near =
      ap (λ (x : Slot T). x.stamp)
      (get_or_default slots i d (record { stamp = 0; value = None }) (subst (λ (k : ℕ). i < k) (sym r.wide) near))

  -- the stamp at an unmarked tail with a free place, and at one that is a lap ahead of the head
  pub stamp_free : (d : Slot T) → is_marked m tail ≡ false → r.pushed < r.popped + n → (slice_index_or slots (tail % m) d).stamp ≡ tail
  stamp_free d unmarked room =
      stamp_of d (tail % m) tail_below ∙ ap (λ (i : ℕ). (slot_at slots i).stamp) tail_index
      ∙ (r.free r.pushed (omega arith) room).0 ∙ sym (open_tail unmarked)

  pub a_lap_ahead : is_marked m tail ≡ false → r.pushed ≡ r.popped + n → tail ≡ head + 2 * m
  a_lap_ahead unmarked full = open_tail unmarked ∙ ap (word_at n m) full ∙ word_a_lap_on n m s r.popped
      ∙ ap (λ (x : ℕ). x + 2 * m) (sym r.head_is)

  pub stamp_full : (d : Slot T) → is_marked m tail ≡ false → r.pushed ≡ r.popped + n
      → (slice_index_or slots (tail % m) d).stamp + 2 * m ≡ tail + 1
  stamp_full d unmarked full =
      let some : 0 < n = s.some in
      let stamp = stamp_of d (tail % m) tail_below
      ∙ ap (λ (i : ℕ). (slot_at slots i).stamp) (tail_index ∙ ap (λ (x : ℕ). x % n) full ∙ add-mod_right r.popped n)
      ∙ (r.filled r.popped (omega arith) (omega arith)).0 in
      let ahead = a_lap_ahead unmarked full in
      let head_is = r.head_is in
      omega arith

  abbrev pub Found : Turn → Slot T → Type 0
  Found t d = ((t ≡ Append tail) × (r.pushed < r.popped + n) × (r.pushed < most_accepted)) ⊎
      (((t ≡ Spend tail) × (r.pushed < r.popped + n) × (r.pushed ≡ most_accepted)) ⊎ ((t ≡ HeadFor tail) × (r.pushed ≡ r.popped + n)))

  -- the second look, at the stamp
  pub pushes_second : (t : Turn) (d : Slot T) → is_marked m tail ≡ false
      → t ≡ stamped_for_push n m tail (slice_index_or slots (tail % m) d).stamp → Found t d
  pushes_second t d unmarked is = dite (dec_le (r.popped + n) r.pushed)
      (λ full.
      let whole : r.pushed ≡ r.popped + n = let w = r.within in omega arith in
      let sum = stamp_full d unmarked whole in
      let above = s.above in
      inr (inr (is ∙ full_goes (slice_index_or slots (tail % m) d).stamp sum (omega arith), whole)))
      (λ not.
      let room : r.pushed < r.popped + n = lt_of_not-le not in
      let e : t ≡ appends_at n m tail = is ∙ ap (stamped_for_push n m tail) (stamp_free d unmarked room) ∙ same tail in
      dite (dec_le most_accepted r.pushed)
      (λ spent. inr
      (inl (
        e ∙ ap (λ (b : Bool). if b then Append tail else Spend tail) (ap (λ (k : ℕ). nat_lt k most_accepted) tail_count
            ∙ le-ltb r.pushed most_accepted spent),
        room,
        let few = r.few in omega arith,
      )))
      (λ not'. let few : r.pushed < most_accepted = lt_of_not-le not' in
      inl (
        e ∙ ap (λ (b : Bool). if b then Append tail else Spend tail) (ap (λ (k : ℕ). nat_lt k most_accepted) tail_count
            ∙ lt-ltb r.pushed most_accepted few),
        room,
        few,
      )))
    where
      same : (w : ℕ) → stamped_for_push n m w w ≡ appends_at n m w
      same w = ap (λ (b : Bool). if b then appends_at n m w else (if w + 2 * m == w + 1 then HeadFor w else Tail)) (eq-eqb w w refl)

      full_goes : (found : ℕ) → found + 2 * m ≡ tail + 1 → 1 < 2 * m → stamped_for_push n m tail found ≡ HeadFor tail
      full_goes found sum two =
          ap (λ (b : Bool). if b then appends_at n m tail else (if found + 2 * m == tail + 1 then HeadFor tail else Tail))
          (ne_eqb found tail (λ e. absurd (omega arith)))
          ∙ ap (λ (b : Bool). if b then HeadFor tail else Tail) (eq-eqb (found + 2 * m) (tail + 1) sum)

  place : r.pushed < r.popped + n → count_at n m tail < count_at n m head + n
  place room = let t = tail_count in let h = head_count in omega arith

  no_place : r.pushed ≡ r.popped + n → count_at n m tail ≡ count_at n m head + n
  no_place full = let t = tail_count in let h = head_count in omega arith

  pub closed_first : (t : PushTurn) → of_push t ≡ pushes_from n m tail → ((w : ℕ) → t ≡ push.Stamp w → ⊥) → PushEnds n m tail head t
  closed_first t is not' = elim (pushes_first (of_push t) is) as (λ _. PushEnds n m tail head t) [
    | inl k ↦ subst (PushEnds n m tail head) (sym (closed_is t k.0)) k.1
    | inr k ↦ absurd (not' tail (stamp_is t tail k.0))
  ]

  stamp_first : (t : PushTurn) (w : ℕ) → of_push t ≡ pushes_from n m tail → t ≡ push.Stamp w → is_marked m tail ≡ false
  stamp_first t w is stamp =
      let at : of_push t ≡ Stamp w = ap of_push stamp in
      elim (pushes_first (of_push t) is) as (λ _. is_marked m tail ≡ false) [ inl k ↦ absurd (let e = k.0 in cc) | inr k ↦ k.1 ]

  -- what a push found at the tail and at the stamp there
  pub push_found : (t u : PushTurn) (w i : ℕ) (d : Slot T) → of_push t ≡ pushes_from n m tail → t ≡ push.Stamp w → i ≡ tail % m
      → of_push u ≡ stamped_for_push n m tail (slice_index_or slots i d).stamp → PushEnds n m tail head u
  push_found t u w i d is stamp at next =
      let unmarked = stamp_first t w is stamp in
      elim (pushes_second (of_push u) d unmarked (next ∙ ap (λ (i : ℕ). stamped_for_push n m tail (slice_index_or slots i d).stamp) at))
      as (λ _. PushEnds n m tail head u) [
        | inl k ↦ subst (PushEnds n m tail head) (sym (append_is u tail k.0)) (
          refl,
          unmarked,
          place k.1,
          subst (λ (x : ℕ). x < most_accepted) (sym tail_count) k.2,
        )
        | inr k ↦ elim k as (λ _. PushEnds n m tail head u) [
          | inl l ↦ subst (PushEnds n m tail head) (sym (spend_is u tail l.0)) (refl, unmarked, place l.1, tail_count ∙ l.2)
          | inr l ↦ subst (PushEnds n m tail head) (sym (head_for_is u tail l.0)) (refl, unmarked, no_place l.1)
        ]
      ]

  -- a forced push goes on as a push where the ring is not full
  pub force_push_too : (t : PushTurn) → PushEnds n m tail head t → ((w : ℕ) → t ≡ push.HeadFor w → ⊥)
      → ForcePushEnds n m tail head (force_push.Push t)
  force_push_too push.Tail ends not' = ends
  force_push_too (push.Stamp w) ends not' = ends
  force_push_too (push.HeadFor w) ends not' = absurd (not' w refl)
  force_push_too (push.Append w) ends not' = ends
  force_push_too (push.Spend w) ends not' = (ends.0, ends.1, ends.3)
  force_push_too push.Closed ends not' = ends

  behind_by_a_lap : is_marked m tail ≡ false → r.pushed ≡ r.popped + n → (head + 2 * m == tail) ≡ true
  behind_by_a_lap unmarked full = eq-eqb (head + 2 * m) tail (sym (a_lap_ahead unmarked full))

  displaces : is_marked m tail ≡ false → r.pushed ≡ r.popped + n → (v : ForcePushTurn) → of_force_push v ≡ displaces_at n m tail
      → ForcePushEnds n m tail head v
  displaces unmarked full v is = dite (dec_le most_accepted r.pushed)
      (λ spent. subst (ForcePushEnds n m tail head)
      (sym (spend_too v tail (is
      ∙ ap (λ (b : Bool). if b then Displace tail else Spend tail) (ap (λ (k : ℕ). nat_lt k most_accepted) tail_count
      ∙ le-ltb r.pushed most_accepted spent))))
      (refl, unmarked, let few = r.few in let t = tail_count in omega arith))
      (λ not'. let few : r.pushed < most_accepted = lt_of_not-le not' in
      subst (ForcePushEnds n m tail head)
      (sym (displace_is v tail (is
      ∙ ap (λ (b : Bool). if b then Displace tail else Spend tail) (ap (λ (k : ℕ). nat_lt k most_accepted) tail_count
      ∙ lt-ltb r.pushed most_accepted few))))
      (refl, unmarked, no_place full, subst (λ (x : ℕ). x < most_accepted) (sym tail_count) few))

  -- on a full ring it looks at the head
  pub force_push_found : (u : PushTurn) (v : ForcePushTurn) (w : ℕ) → PushEnds n m tail head u → u ≡ push.HeadFor w
      → of_force_push v ≡ force_push_turn n m (HeadFor tail) head → ForcePushEnds n m tail head v
  force_push_found u v w found is next =
      let k = subst (PushEnds n m tail head) is found in
      let full : r.pushed ≡ r.popped + n = let e = k.2 in let t = tail_count in let h = head_count in omega arith in
      displaces k.1 full v (next ∙ ap (λ (b : Bool). if b then displaces_at n m tail else Tail) (behind_by_a_lap k.1 full))

  abbrev pub FoundToPop : Turn → Type 0
  FoundToPop u = ((u ≡ Take head) × (r.popped < r.pushed)) ⊎ ((u ≡ TailFor head) × (r.pushed ≡ r.popped))

  stamp_filled : (d : Slot T) → r.popped < r.pushed → (slice_index_or slots (head % m) d).stamp ≡ head + 1
  stamp_filled d some =
      stamp_of d (head % m) head_below ∙ ap (λ (i : ℕ). (slot_at slots i).stamp) head_index
      ∙ (r.filled r.popped (omega arith) some).0 ∙ ap (λ (x : ℕ). x + 1) (sym r.head_is)

  stamp_empty : (d : Slot T) → r.pushed ≡ r.popped → (slice_index_or slots (head % m) d).stamp ≡ head
  stamp_empty d none =
      let some : 0 < n = s.some in
      stamp_of d (head % m) head_below ∙ ap (λ (i : ℕ). (slot_at slots i).stamp) head_index
      ∙ (r.free r.popped (omega arith) (omega arith)).0 ∙ sym r.head_is

  abbrev taking : Turn
  taking = if nat_lt (count_at n m head) most_accepted then Take head else Head

  pub pops_second : (u : Turn) (d : Slot T) → u ≡ stamped_for_pop n m head (slice_index_or slots (head % m) d).stamp → FoundToPop u
  pops_second u d is = dite (dec_le r.pushed r.popped)
      (λ none.
      let whole : r.pushed ≡ r.popped = let b = r.behind in omega arith in
      inr (
        is ∙ ap (stamped_for_pop n m head) (stamp_empty d whole)
            ∙ ap (λ (b : Bool). if b then taking else (if head == head then TailFor head else Head))
            (ne_eqb head (head + 1) (λ e. absurd (omega arith)))
            ∙ ap (λ (b : Bool). if b then TailFor head else Head) (eq-eqb head head refl),
        whole,
      ))
      (λ not.
      let some : r.popped < r.pushed = lt_of_not-le not in
      inl (
        is ∙ ap (stamped_for_pop n m head) (stamp_filled d some)
            ∙ ap (λ (b : Bool). if b then taking else (if head + 1 == head then TailFor head else Head)) (eq-eqb (head + 1) (head + 1) refl)
            ∙ ap (λ (b : Bool). if b then Take head else Head) (ap (λ (k : ℕ). nat_lt k most_accepted) head_count
            ∙ lt-ltb r.popped most_accepted (let few = r.few in omega arith)),
        some,
      ))

  pub pop_found : (u : PopTurn) (i : ℕ) (d : Slot T) → i ≡ head % m
      → of_pop u ≡ stamped_for_pop n m head (slice_index_or slots i d).stamp → FoundToPop (of_pop u)
  pop_found u i d at next =
      pops_second (of_pop u) d (next ∙ ap (λ (i : ℕ). stamped_for_pop n m head (slice_index_or slots i d).stamp) at)

  pub pop_second : (u : PopTurn) → FoundToPop (of_pop u) → ((w : ℕ) → u ≡ pop.TailFor w → ⊥) → PopEnds n m tail head u
  pop_second u found not' = elim found as (λ _. PopEnds n m tail head u) [
    | inl k ↦ subst (PopEnds n m tail head) (sym (take_is u head k.0)) (
      refl,
      let t = tail_count in let h = head_count in let some = k.1 in omega arith,
    )
    | inr k ↦ absurd (not' head (tail_for_is u head k.0))
  ]

  tail_for_head : r.pushed ≡ r.popped → tail ≡ head + r.shut * m
  tail_for_head none = r.tail_is ∙ ap (λ (k : ℕ). word_at n m k + r.shut * m) none ∙ ap (λ (k : ℕ). k + r.shut * m) (sym r.head_is)

  counts_meet : r.pushed ≡ r.popped → count_at n m tail ≡ count_at n m head
  counts_meet none = tail_count ∙ none ∙ sym head_count

  pub pop_third : (u v : PopTurn) (w : ℕ) → FoundToPop (of_pop u) → u ≡ pop.TailFor w → of_pop v ≡ pop_turn n m (TailFor head) tail
      → PopEnds n m tail head v
  pop_third u v w found is next =
      let at : of_pop u ≡ TailFor w = ap of_pop is in
      elim found as (λ _. PopEnds n m tail head v) [ inl k ↦ absurd (let e = k.0 in cc) | inr k ↦ by (is_marked m tail) refl k.1 ]
    where
      by : (b : Bool) → is_marked m tail ≡ b → r.pushed ≡ r.popped → PopEnds n m tail head v
      by false unmarked none =
          let same : tail ≡ head = tail_for_head none ∙ ap (λ (k : ℕ). head + k * m) (unmarked_is unmarked) ∙ (omega (arith, zero-mul m)) in
          subst (PopEnds n m tail head)
          (sym (empty_is v (next ∙ ap (λ (b : Bool). if b then End Empty else (if tail == head + m then End Closed else Head))
          (eq-eqb tail head same))))
          (counts_meet none, unmarked)
      by true marked none =
          let one : r.shut ≡ 1 = let once = r.shut_once in let told = sym tail_marked ∙ marked in grind (arith, nat_tests) in
          let same : tail ≡ head + m = tail_for_head none ∙ ap (λ (k : ℕ). head + k * m) one ∙ omega arith in
          let some : 0 < n = s.some in let above : n < m = s.above in
          subst (PopEnds n m tail head) (sym (closed_to_pop v (next
          ∙ ap (λ (b : Bool). if b then End Empty else (if tail == head + m then End Closed else Head))
          (ne_eqb tail head (λ e. absurd (omega arith)))
          ∙ ap (λ (b : Bool). if b then End Closed else Head) (eq-eqb tail (head + m) same))))
          (counts_meet none, marked)
