-- A call on a ring that begins while no other is in progress ends. n is the number of places, m the mark.
use Rattle.std.proofs.lemmas.Bool.Decides.{nat_tests}
use Rattle.std.proofs.Common.{◌≡◌, ◌⊎◌, inl, inr, ℕ, suc, ◌+◌, ◌*◌, ◌%◌, ◌<◌, ◌≤◌, List, Bool, true, false, Option, None}
use Rattle.std.proofs.Common.{sym, refl, ap, ◌∙◌, subst, arith}
use Rattle.queue_steps.specs.BoundedTurns.{Turn, Tail, Head, Stamp, Take}
use Rattle.queue_steps.specs.BoundedTurns.{Drain, End, Close as CloseTurn, pushes_from}
use Rattle.queue_steps.specs.BoundedTurns.{pops_from}
use Rattle.queue_steps.specs.Reply.{Reply, Closed}
use Rattle.queue_steps.specs.ClosableQueue.{most_accepted}
use Rattle.queue_steps.specs.Calls.{Call, Push, ForcePush, Pop, Close, Len, IsEmptyCall, IsFullCall, IsClosedCall}
use Rattle.queue_laws.specs.Moments.{Progress}
use Rattle.queue_steps.specs.Bounded.{IsShape, word_at, count_at, is_marked}
use Rattle.queue_laws.specs.SingleSteps.{Step, Begin}
use Rattle.queue_laws.specs.BoundedSteps.{Place, Away, Stands, Leaving, BoundedWorld, with_at, first_turn, gone, stepped, run, new_ring}
use Rattle.queue_laws.specs.LoneCalls.{goes, EndsOnRing}
use Rattle.queue_steps.proofs.BoundedWords.{index_of_word, count_of_word, word_a_lap_on}
use Rattle.queue_laws.proofs.BoundedStamps.{bit, marked_is, tail_index, a_lap_on, same_count}
use Rattle.queue_laws.proofs.BoundedState.{Phase, free, full, held, Cell, cell, Ghost, Base, CellLies, HeldBy, place_of, slot_of, Tied}
use Rattle.queue_laws.proofs.BoundedPuts.{near}
use Rattle.queue_laws.proofs.BoundedRuns.{runs, new_ghost, new_tied}

module _ (n m : ℕ) where
  two_marks : IsShape n m → 1 < 2 * m
  two_marks shape = grind (arith, nat_tests)

module _ {T : Type 0} (n m : ℕ) where
  -- the party is in no call after so many steps of its own, at most
  abbrev Within : ℕ → BoundedWorld T → ℕ → Type 0
  Within most w p = (k : ℕ) × (k ≤ most) × ((run n m (goes p k) w).places p ≡ Away)

  away : (w : BoundedWorld T) (p : ℕ) → w.places p ≡ Away → Within 0 w p
  away w p is = (0, (omega arith), is)

  next : (most : ℕ) (w : BoundedWorld T) (p : ℕ) (place : Place T) → w.places p ≡ place → Within most (gone n m w p place) p
      → Within (suc most) w p
  next most w p place is h =
      (suc h.0, (let z = h.1 in omega arith), grind (arith, nat_tests))

  more : (a b : ℕ) (w : BoundedWorld T) (p : ℕ) → a ≤ b → Within a w p → Within b w p
  more a b w p le h = grind (arith, nat_tests)

  ended : (w : BoundedWorld T) (p : ℕ) (call : Call T) (r : Reply) → w.places p ≡ Stands call (End r) → Within 1 w p
  ended w p call r is = grind (arith, nat_tests)

  drained : (w : BoundedWorld T) (p : ℕ) (call : Call T) (h : ℕ) → w.places p ≡ Stands call (Drain h) → Within 2 w p
  drained w p call h is = grind (arith, nat_tests)

  -- the party stands so after a step on a word
  stands : (places : ℕ → Place T) (p : ℕ) (call : Call T) (t u : Turn) → t ≡ u → with_at places p (Stands call t) p ≡ Stands call u
  stands places p call t u is = grind (arith, nat_tests)

  -- where the place at the tail is free
  free_push : (w : BoundedWorld T) (p : ℕ) (x : T) (t : ℕ) → w.tail ≡ t → (w.slots (t % m)).stamp ≡ t
      → w.places p ≡ Stands (Push x) (Stamp t) → Within 4 w p
  free_push w p x t tail stamp is = grind (arith, nat_tests)

  free_force : (w : BoundedWorld T) (p : ℕ) (x : T) (t : ℕ) → w.tail ≡ t → (w.slots (t % m)).stamp ≡ t
      → w.places p ≡ Stands (ForcePush x) (Stamp t) → Within 4 w p
  free_force w p x t tail stamp is = grind (arith, nat_tests)

  full_push : (w : BoundedWorld T) (p : ℕ) (x : T) (t : ℕ) → 1 < 2 * m → w.head + 2 * m ≡ t → (w.slots (t % m)).stamp + 2 * m ≡ t + 1
      → w.places p ≡ Stands (Push x) (Stamp t) → Within 3 w p
  full_push w p x t two head stamp is = grind (arith, nat_tests)

  full_force : (w : BoundedWorld T) (p : ℕ) (x : T) (t : ℕ) → 1 < 2 * m → w.tail ≡ t → w.head + 2 * m ≡ t
      → (w.slots (t % m)).stamp + 2 * m ≡ t + 1 → w.places p ≡ Stands (ForcePush x) (Stamp t) → Within 6 w p
  full_force w p x t two tail head stamp is = grind (arith, nat_tests)

  taken : (w : BoundedWorld T) (p : ℕ) (h : ℕ) → w.head ≡ h → w.places p ≡ Stands Pop (Take h) → Within 3 w p
  taken w p h head is = grind (arith, nat_tests)

  some_pop : (w : BoundedWorld T) (p : ℕ) (h : ℕ) → w.head ≡ h → (w.slots (h % m)).stamp ≡ h + 1 → count_at n m h < most_accepted
      → w.places p ≡ Stands Pop (Stamp h) → Within 4 w p
  some_pop w p h head stamp few is = grind (arith, nat_tests)

  none_pop : (w : BoundedWorld T) (p : ℕ) (h : ℕ) (shut : Bool) → 0 < m → w.tail ≡ h + bit shut * m → (w.slots (h % m)).stamp ≡ h
      → w.places p ≡ Stands Pop (Stamp h) → Within 3 w p
  none_pop w p h shut some tail stamp is = grind (arith, nat_tests)

module _ {T : Type 0} (n m : ℕ) (shape : IsShape n m) where
  -- the words of a ring on which no call is in progress
  record Rest (w : BoundedWorld T) : Type 0 where
    pushed : ℕ
    popped : ℕ
    shut : Bool
    few : pushed ≤ most_accepted
    tail : w.tail ≡ word_at n m pushed + bit shut * m
    head : w.head ≡ word_at n m popped
    at_tail : ((w.slots (pushed % n)).stamp ≡ word_at n m pushed)
        ⊎ (((w.slots (pushed % n)).stamp + 2 * m ≡ word_at n m pushed + 1) × (popped + n ≡ pushed))
    at_head : (((w.slots (popped % n)).stamp ≡ word_at n m popped + 1) × (popped < pushed))
        ⊎ (((w.slots (popped % n)).stamp ≡ word_at n m popped) × (pushed ≡ popped))

  module _ (w : BoundedWorld T) (r : Rest w) (p : ℕ) where
    mark_is : is_marked m w.tail ≡ r.shut
    mark_is = grind (arith, nat_tests, marked_is)

    tail_below : w.tail % m < n
    tail_below = grind (arith, nat_tests, tail_index, near)

    finds_closed : r.shut ≡ true → pushes_from n m w.tail ≡ End Closed
    finds_closed shut = grind (arith, nat_tests, mark_is)

    finds_stamp : r.shut ≡ false → pushes_from n m w.tail ≡ Stamp w.tail
    finds_stamp shut = grind (arith, nat_tests, mark_is, tail_below)

    open_tail : r.shut ≡ false → w.tail ≡ word_at n m r.pushed
    open_tail shut = grind (arith, nat_tests)

    stamp_at_tail : r.shut ≡ false → (w.slots (w.tail % m)).stamp ≡ (w.slots (r.pushed % n)).stamp
    stamp_at_tail shut = grind (arith, nat_tests, open_tail, index_of_word)

    head_behind_tail : r.shut ≡ false → r.popped + n ≡ r.pushed → w.head + 2 * m ≡ w.tail
    head_behind_tail shut whole = grind (arith, nat_tests, word_a_lap_on, open_tail)

    lone_push : (x : T) → w.places p ≡ Stands (Push x) Tail → Within n m 5 w p
    lone_push x is = next n m 4 w p (Stands (Push x) Tail) is (by r.shut refl r.at_tail)
      where
        by : (b : Bool) → r.shut ≡ b
            → ((w.slots (r.pushed % n)).stamp ≡ word_at n m r.pushed)
            ⊎ (((w.slots (r.pushed % n)).stamp + 2 * m ≡ word_at n m r.pushed + 1) × (r.popped + n ≡ r.pushed))
            → Within n m 4 (gone n m w p (Stands (Push x) Tail)) p
        by true shut place =
            more n m 1 4 _ p (omega arith)
            (ended n m _ p (Push x) Closed (stands n m w.places p (Push x) _ (End Closed) (finds_closed shut)))
        by false shut (inl vacant) =
            free_push n m _ p x w.tail refl (stamp_at_tail shut ∙ vacant
            ∙ sym (open_tail shut)) (stands n m w.places p (Push x) _ (Stamp w.tail) (finds_stamp shut))
        by false shut (inr (stamp, whole)) =
            more n m 3 4 _ p (omega arith) (full_push n m _ p x w.tail (two_marks n m shape) (head_behind_tail shut whole)
            (let z = stamp_at_tail shut in let t = open_tail shut in
            omega arith) (stands n m w.places p (Push x) _ (Stamp w.tail) (finds_stamp shut)))

    lone_force : (x : T) → w.places p ≡ Stands (ForcePush x) Tail → Within n m 7 w p
    lone_force x is = next n m 6 w p (Stands (ForcePush x) Tail) is (by r.shut refl r.at_tail)
      where
        by : (b : Bool) → r.shut ≡ b
            → ((w.slots (r.pushed % n)).stamp ≡ word_at n m r.pushed)
            ⊎ (((w.slots (r.pushed % n)).stamp + 2 * m ≡ word_at n m r.pushed + 1) × (r.popped + n ≡ r.pushed))
            → Within n m 6 (gone n m w p (Stands (ForcePush x) Tail)) p
        by true shut place =
            more n m 1 6 _ p (omega arith)
            (ended n m _ p (ForcePush x) Closed (stands n m w.places p (ForcePush x) _ (End Closed) (finds_closed shut)))
        by false shut (inl vacant) =
            more n m 4 6 _ p (omega arith)
            (free_force n m _ p x w.tail refl (stamp_at_tail shut ∙ vacant
            ∙ sym (open_tail shut)) (stands n m w.places p (ForcePush x) _ (Stamp w.tail) (finds_stamp shut)))
        by false shut (inr (stamp, whole)) =
            full_force n m _ p x w.tail (two_marks n m shape) refl (head_behind_tail shut whole)
            (let z = stamp_at_tail shut in let t = open_tail shut in
            omega arith) (stands n m w.places p (ForcePush x) _ (Stamp w.tail) (finds_stamp shut))

    head_place : w.head % m ≡ r.popped % n
    head_place = grind (arith, nat_tests, index_of_word)

    finds_head : pops_from n m w.head ≡ Stamp w.head
    finds_head = grind (arith, nat_tests, head_place, near)

    stamp_at_head : (w.slots (w.head % m)).stamp ≡ (w.slots (r.popped % n)).stamp
    stamp_at_head = grind (arith, nat_tests, head_place)

    lone_pop : w.places p ≡ Stands Pop Head → Within n m 5 w p
    lone_pop is = next n m 4 w p (Stands Pop Head) is (by r.at_head)
      where
        by : (((w.slots (r.popped % n)).stamp ≡ word_at n m r.popped + 1) × (r.popped < r.pushed))
            ⊎ (((w.slots (r.popped % n)).stamp ≡ word_at n m r.popped) × (r.pushed ≡ r.popped))
            → Within n m 4 (gone n m w p (Stands Pop Head)) p
        by (inl (stamp, some)) =
            some_pop n m _ p w.head refl (let z = stamp_at_head in let h = r.head in omega arith)
            (let c = ap (count_at n m) r.head ∙ count_of_word n m shape r.popped in let f = r.few in
            omega arith) (stands n m w.places p Pop _ (Stamp w.head) finds_head)
        by (inr (stamp, none)) =
            more n m 3 4 _ p (omega arith) (none_pop n m _ p w.head r.shut (let s = shape.above in omega arith)
            (grind (arith, nat_tests))
            (stamp_at_head ∙ stamp ∙ sym r.head) (stands n m w.places p Pop _ (Stamp w.head) finds_head))

    lone_close : w.places p ≡ Stands Close CloseTurn → Within n m 2 w p
    lone_close is = grind (arith, nat_tests)

    lone_len : w.places p ≡ Stands Len Tail → Within n m 4 w p
    lone_len is = grind (arith, nat_tests)

    lone_empty : w.places p ≡ Stands IsEmptyCall Head → Within n m 3 w p
    lone_empty is = grind (arith, nat_tests)

    lone_full : w.places p ≡ Stands IsFullCall Tail → Within n m 3 w p
    lone_full is = grind (arith, nat_tests)

    lone_closed : w.places p ≡ Stands IsClosedCall Tail → Within n m 2 w p
    lone_closed is = grind (arith, nat_tests)

    lone : (call : Call T) → w.places p ≡ Stands call (first_turn n m call) → Within n m 7 w p
    lone (Push x) is = grind (arith, nat_tests, more, lone_push)
    lone (ForcePush x) is = lone_force x is
    lone Pop is = grind (arith, nat_tests, more, lone_pop)
    lone Close is = grind (arith, nat_tests, more, lone_close)
    lone Len is = grind (arith, nat_tests, more, lone_len)
    lone IsEmptyCall is = grind (arith, nat_tests, more, lone_empty)
    lone IsFullCall is = grind (arith, nat_tests, more, lone_full)
    lone IsClosedCall is = grind (arith, nat_tests, more, lone_closed)

  -- a ring whose parties are all away has places that are free or have an item
  module _ (w : BoundedWorld T) (g : Ghost T) (calls : ℕ → Option (Progress T)) (tied : Tied n m w g calls) (all_away : (q : ℕ)
      → w.places q ≡ Away) where
    nobody : (j c : ℕ) (call : Call T) (grip : _) (o : Option T) (d : Bool) → w.places j ≡ place_of n m c call grip o d → ⊥
    nobody j c call grip o d is = grind (arith, nat_tests)

    tail_at : (c : ℕ) (ph : Phase T) → c % n ≡ g.pushed % n → CellLies n m g (cell c ph) → HeldBy n m w.places c ph
        → (word_at n m c + Rattle.queue_laws.proofs.BoundedState.up ph ≡ word_at n m g.pushed)
        ⊎ ((word_at n m c + Rattle.queue_laws.proofs.BoundedState.up ph + 2 * m ≡ word_at n m g.pushed + 1)
        × (g.popped + n ≡ g.pushed))
    tail_at c free here k held_by = grind (arith, nat_tests, same_count)
    tail_at c (full x) here k held_by =
        let is : g.pushed ≡ c + n =
        same_count n g.pushed (c + n) (grind (arith, nat_tests)) (let z = k.1 in
        omega arith) (sym here ∙ sym (a_lap_on n c)) in
        inr (
          (let z = ap (word_at n m) is in let l = word_a_lap_on n m shape c in omega arith),
          (grind (arith, nat_tests)),
        )
    tail_at c (held j call grip o d) here k held_by = grind (arith, nat_tests)

    head_at : (c : ℕ) (ph : Phase T) → c % n ≡ g.popped % n → CellLies n m g (cell c ph) → HeldBy n m w.places c ph
        → ((word_at n m c + Rattle.queue_laws.proofs.BoundedState.up ph ≡ word_at n m g.popped + 1) × (g.popped < g.pushed))
        ⊎ ((word_at n m c + Rattle.queue_laws.proofs.BoundedState.up ph ≡ word_at n m g.popped) × (g.pushed ≡ g.popped))
    head_at c ph here k held_by = grind (arith, nat_tests, free, same_count, full, held, nobody)

    rests : (places : ℕ → Place T) → Rest (record w { places = places })
    rests places = grind (arith, nat_tests, near, tail_at, head_at)

    lone_ends : (p : ℕ) (call : Call T) → Within n m 7 (stepped n m w (Begin p call)) p
    lone_ends p call =
        subst (λ (x : Place T). Within n m 7 (Rattle.queue_laws.specs.BoundedSteps.begun n m w p call x) p) (sym (all_away p))
        (let places = with_at w.places p (Stands call (first_turn n m call)) in
        lone (record w { places = places }) (rests places) p call (grind (arith, nat_tests)))

  pub a_lone_call_ends : (steps : List (Step T)) → EndsOnRing n m steps
  a_lone_call_ends steps all_away p call =
      let r = runs n m shape steps (new_ring n m) (new_ghost n m shape) (λ q. None) (new_tied n m shape) in
      let h = lone_ends (run n m steps (new_ring n m)) r.0 r.1 r.3 all_away p call in
      (h.0, (let z = h.1 in omega arith), h.2)
