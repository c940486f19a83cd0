-- A ring is at rest after each change of a lone call, and the queue that it is then.
use Rattle.std.proofs.Common.{◌≡◌, ◌≢◌, ◌⊎◌, inl, inr, ℕ, suc, ◌+◌, ◌-◌, ◌*◌, ◌%◌, ◌<◌, ◌≤◌, List, [], ◌∷◌, ◌++◌, length, slice_set, drop}
use Rattle.std.proofs.Common.{Bool, true, false, Option, Some, None, IsSome, IsTrue, option_to_list, ◌==◌, ◌||◌, ◌↔◌, sym, refl, ap, ap₂}
use Rattle.std.proofs.Common.{◌∙◌, subst, mod-lt, zero-mul, lt_of_not-le, arith}
use Rattle.std.proofs.lemmas.List.{get_or-set_same, get_or-set_other, length-set}
use Rattle.std.proofs.lemmas.Bool.Decides.{nat_tests}
use mathlib.Core.Logic.{dite}
use native.Mathlib.Decide.{dec_le}
use native.Mathlib.Nat.{add-mod_right}
use Rattle.queue_steps.specs.declared.bounded.Slot.{Slot}
use Rattle.queue_steps.specs.ClosableQueue.{ClosableQueue, IsFull, HasRoom, most_accepted, appended, taken, shut}
use Rattle.queue_steps.specs.Replies.{Accepts}
use Rattle.queue_steps.specs.Bounded.{IsShape, IsPlaceWord, word_at, count_at, next_at, is_marked}
use Rattle.queue_steps.specs.BoundedAtRest.{slot_at, IsFilled, IsFree, filled_at, emptied_at, held, BoundedAtRest, ring_queue}
use Rattle.queue_steps.proofs.BoundedWords.{marked_by, count_of, count_of_word, next_is, word_a_lap_on}
use Rattle.queue_steps.proofs.BoundedSlots.{places_differ, held-set_other, held-suc, length-held}
use Rattle.queue_steps.proofs.BoundedFinds.{tail_index, head_index, tail_count, head_count, tail_below, head_below, unmarked_is, open_tail}

module _ {T : Type 0} (n m : ℕ) (s : IsShape n m) where
  -- the queue by its counts
  pub ring_is : (tail head : ℕ) (slots : List (Slot T)) (pushed popped shut : ℕ) → shut ≤ 1 → tail ≡ word_at n m pushed + shut * m
      → head ≡ word_at n m popped
      → ring_queue n m tail head slots ≡ record {
        items = held n slots popped (pushed - popped);
        capacity = Some n;
        closed =
            shut == 1;
        accepted = Some pushed;
      }
  ring_is tail head slots pushed popped shut once tail_is head_is =
      let t : count_at n m tail ≡ pushed = ap (count_at n m) tail_is ∙ count_of n m s pushed shut once in
      let h : count_at n m head ≡ popped = ap (count_at n m) head_is ∙ count_of_word n m s popped in
      let marked : is_marked m tail ≡ (shut == 1) = ap (is_marked m) tail_is ∙ marked_by n m s pushed shut once in
      λ i. record { items = held n slots (h i) (t i - h i); capacity = Some n; closed = marked i; accepted = Some (t i) }

module _ {T : Type 0} (n m tail head : ℕ) (slots : List (Slot T)) (s : IsShape n m) (r : BoundedAtRest n m tail head slots) where
  pub queue_is : ring_queue n m tail head slots ≡ record {
    items = held n slots r.popped (r.pushed - r.popped);
    capacity = Some n;
    closed =
        r.shut == 1;
    accepted = Some r.pushed;
  }
  queue_is = ring_is n m s tail head slots r.pushed r.popped r.shut r.shut_once r.tail_is r.head_is

  pub length_items : length (held n slots r.popped (r.pushed - r.popped)) ≡ r.pushed - r.popped
  length_items = length-held n slots r.popped (r.pushed - r.popped) (λ q a b. (r.filled q a (let k = r.behind in omega arith)).1)

  pub length_queue : length (ring_queue n m tail head slots).items ≡ count_at n m tail - count_at n m head
  length_queue = ap (λ (q : ClosableQueue T). length q.items) queue_is ∙ length_items
      ∙ ap₂ (λ (a b : ℕ). a - b) (sym (tail_count n m tail head slots s r)) (sym (head_count n m tail head slots s r))

  -- a place that is set keeps the places of other counts as they were
  other_place : (p q : ℕ) (x : Slot T) → p % n ≢ q % n → slot_at (slice_set slots (q % n) x) (p % n) ≡ slot_at slots (p % n)
  other_place p q x apart = get_or-set_other slots (q % n) (p % n) x (record { stamp = 0; value = None }) apart

  this_place : (q : ℕ) (x : Slot T) → slot_at (slice_set slots (q % n) x) (q % n) ≡ x
  this_place q x =
      get_or-set_same slots (q % n) x (record { stamp = 0; value = None }) (subst (λ (k : ℕ). q % n < k) (sym r.wide) (mod-lt q s.some))

  apart : (p q : ℕ) → p < q + n → q < p + n → p ≢ q → p % n ≢ q % n
  apart p q a b other = dite (dec_le p q)
      (λ le. places_differ n p q (omega arith) b)
      (λ not. let more : q < p = lt_of_not-le not in λ e. places_differ n q p more a (sym e))

  next_tail : is_marked m tail ≡ false → next_at n m tail ≡ word_at n m (r.pushed + 1)
  next_tail unmarked = ap (next_at n m) (open_tail n m tail head slots s r unmarked) ∙ next_is n m s r.pushed

  next_head : next_at n m head ≡ word_at n m (r.popped + 1)
  next_head = ap (next_at n m) r.head_is ∙ next_is n m s r.popped

  -- the places of other counts keep what they had, and this one has what it was given
  filled_else : (p q : ℕ) (x : Slot T) → p % n ≢ q % n → IsFilled n m slots p → IsFilled n m (slice_set slots (q % n) x) p
  filled_else p q x other old = subst (λ (y : Slot T). (y.stamp ≡ word_at n m p + 1) × IsSome y.value) (sym (other_place p q x other)) old

  free_else : (p q : ℕ) (x : Slot T) → p % n ≢ q % n → IsFree n m slots p → IsFree n m (slice_set slots (q % n) x) p
  free_else p q x other old = subst (λ (y : Slot T). (y.stamp ≡ word_at n m p) × (y.value ≡ None)) (sym (other_place p q x other)) old

  filled_here : (q stamp : ℕ) (x : T) → stamp ≡ word_at n m q + 1 → IsFilled n m (filled_at slots (q % n) stamp x) q
  filled_here q stamp x is = subst (λ (y : Slot T). (y.stamp ≡ word_at n m q + 1) × IsSome y.value)
      (sym (this_place q (record { stamp = stamp; value = Some x }))) (is, refl)

  free_here : (q stamp : ℕ) → stamp ≡ word_at n m (q + n) → IsFree n m (emptied_at slots (q % n) stamp) (q + n)
  free_here q stamp is =
      subst (λ (i : ℕ). ((slot_at (emptied_at slots (q % n) stamp) i).stamp ≡ word_at n m (q + n))
      × ((slot_at (emptied_at slots (q % n) stamp) i).value ≡ None))
      (sym (add-mod_right q n))
      (subst (λ (y : Slot T). (y.stamp ≡ word_at n m (q + n)) × (y.value ≡ None))
      (sym (this_place q (record { stamp = stamp; value = None }))) (is, refl))

  unshut : (p : ℕ) → word_at n m p ≡ word_at n m p + 0 * m
  unshut p = omega (arith, zero-mul m)

  pub counts : (count_at n m tail ≡ r.pushed) × (count_at n m head ≡ r.popped)
  counts = (tail_count n m tail head slots s r, head_count n m tail head slots s r)

  is_open : is_marked m tail ≡ false → r.shut ≡ 0
  is_open unmarked = unmarked_is n m tail head slots s r unmarked

  tail_stamp : is_marked m tail ≡ false → tail + 1 ≡ word_at n m r.pushed + 1
  tail_stamp unmarked = ap (λ (w : ℕ). w + 1) (open_tail n m tail head slots s r unmarked)

  -- an append at the place of the tail
  appended_at : (x : T) (popped : ℕ) (head' : ℕ) → is_marked m tail ≡ false → r.pushed < most_accepted → r.popped ≤ popped
      → popped ≤ r.pushed → r.pushed < popped + n
      → ((p : ℕ) → r.pushed + 1 ≤ p → p < popped + n → p < r.popped + n)
      → head' ≡ word_at n m popped → BoundedAtRest n m (next_at n m tail) head' (filled_at slots (r.pushed % n) (tail + 1) x)
  appended_at x popped head' unmarked few from behind room within is = record {
    pushed = r.pushed + 1;
    popped = popped;
    shut = 0;
    shut_once = omega arith;
    tail_is = next_tail unmarked ∙ unshut (r.pushed + 1);
    head_is = is;
    behind = omega arith;
    within = omega arith;
    few = omega arith;
    wide = length-set slots (r.pushed % n) (record { stamp = tail + 1; value = Some x }) ∙ r.wide;
    filled = λ p a b. dite (dec_le r.pushed p)
        (λ last. subst (IsFilled n m (filled_at slots (r.pushed % n) (tail + 1) x)) (let z : r.pushed ≡ p = omega arith in
        z) (filled_here r.pushed (tail + 1) x (tail_stamp unmarked)))
        (λ not. let below : p < r.pushed = lt_of_not-le not in
        filled_else p r.pushed (record { stamp = tail + 1; value = Some x })
        (apart p r.pushed (omega arith) (omega arith) (λ e. absurd (omega arith))) (r.filled p (omega arith) below));
    free = λ p a b. free_else p r.pushed (record { stamp = tail + 1; value = Some x })
        (apart p r.pushed (omega arith) (omega arith) (λ e. absurd (omega arith)))
        (r.free p (omega arith) (within p a b));
  }

  abbrev Queue : Type 0
  Queue = ClosableQueue T

  abbrev made : List T → Bool → ℕ → Queue
  made items closed accepted = record { items = items; capacity = Some n; closed = closed; accepted = Some accepted }

  -- the places of an append, from the count popped on
  held_appended : (x : T) (popped : ℕ) → popped ≤ r.pushed → r.pushed < popped + n
      → held n (filled_at slots (r.pushed % n) (tail + 1) x) popped (r.pushed + 1 - popped) ≡ held n slots popped (r.pushed - popped)
      ++ x ∷ []
  held_appended x popped behind room =
      let new : List (Slot T) = filled_at slots (r.pushed % n) (tail + 1) x in
      let k : ℕ = r.pushed - popped in
      ap (held n new popped) (let z : r.pushed + 1 - popped ≡ suc k = omega arith in z)
      ∙ held-suc n new popped k
      ∙ ap₂ (λ (xs : List T) (o : Option T). xs ++ option_to_list o)
      (held-set_other n slots (r.pushed % n) (record { stamp = tail + 1; value = Some x }) popped k
      (λ q a b. apart q r.pushed (omega arith) (omega arith) (λ e. absurd (omega arith))))
      (ap (λ (q : ℕ). (slot_at new (q % n)).value) (let z : popped + k ≡ r.pushed = omega arith in z)
      ∙ ap (λ (y : Slot T). y.value) (this_place r.pushed (record { stamp = tail + 1; value = Some x })))

  -- the queue of an append, from the count popped on
  queue_appended_at : (x : T) (popped head' : ℕ) → is_marked m tail ≡ false → popped ≤ r.pushed → r.pushed < popped + n
      → head' ≡ word_at n m popped
      → ring_queue n m (next_at n m tail) head' (filled_at slots (r.pushed % n) (tail + 1) x)
      ≡ made (held n slots popped (r.pushed - popped) ++ x ∷ []) false (r.pushed + 1)
  queue_appended_at x popped head' unmarked behind room is =
      ring_is n m s (next_at n m tail) head' (filled_at slots (r.pushed % n) (tail + 1) x) (r.pushed + 1) popped 0 (omega arith)
      (next_tail unmarked ∙ unshut (r.pushed + 1)) is
      ∙ ap (λ (items : List T). made items false (r.pushed + 1)) (held_appended x popped behind room)

  at_tail : (x : T) → filled_at slots (tail % m) (tail + 1) x ≡ filled_at slots (r.pushed % n) (tail + 1) x
  at_tail x = ap (λ (i : ℕ). filled_at slots i (tail + 1) x) (tail_index n m tail head slots s r)

  pub tail_place : count_at n m tail < most_accepted → IsPlaceWord n m tail
  tail_place few = record { index = tail_below n m tail head slots s r; count = few }

  pub head_place : count_at n m head < most_accepted → IsPlaceWord n m head
  head_place few = record { index = head_below n m tail head slots s r; count = few }

  open_queue : is_marked m tail ≡ false → ring_queue n m tail head slots ≡ made (held n slots r.popped (r.pushed - r.popped)) false r.pushed
  open_queue unmarked = queue_is ∙ ap (λ (k : ℕ). made (held n slots r.popped (r.pushed - r.popped)) (k == 1) r.pushed) (is_open unmarked)

  -- an append where a place is free
  pub appends : (x : T) → is_marked m tail ≡ false → count_at n m tail < count_at n m head + n → count_at n m tail < most_accepted
      → BoundedAtRest n m (next_at n m tail) head (filled_at slots (tail % m) (tail + 1) x)
  appends x unmarked place few = subst (BoundedAtRest n m (next_at n m tail) head) (sym (at_tail x))
      (let c = counts in let b = r.behind in let w = r.within in
      appended_at x r.popped head unmarked (omega arith) (omega arith) (omega arith) (omega arith) (λ p a b. b) r.head_is)

  pub queue_appends : (x : T) → is_marked m tail ≡ false → count_at n m tail < count_at n m head + n
      → ring_queue n m (next_at n m tail) head (filled_at slots (tail % m) (tail + 1) x) ≡ appended (ring_queue n m tail head slots) x
  queue_appends x unmarked place =
      ap (ring_queue n m (next_at n m tail) head) (at_tail x)
      ∙ (let c = counts in let b = r.behind in queue_appended_at x r.popped head unmarked (omega arith) (omega arith) r.head_is)
      ∙ sym (ap (λ (q : Queue). appended q x) (open_queue unmarked))

  pub accepts : is_marked m tail ≡ false → count_at n m tail < count_at n m head + n → count_at n m tail < most_accepted
      → Accepts (ring_queue n m tail head slots)
  accepts unmarked place few =
      (unmarked, (let l = length_queue in let c = counts in let b = r.behind in let some : 0 < n = s.some in omega arith), few)

  pub full : count_at n m tail ≡ count_at n m head + n → IsFull (ring_queue n m tail head slots)
  full place = let l = length_queue in omega arith

  pub roomy : count_at n m tail < count_at n m head + n → HasRoom (ring_queue n m tail head slots)
  roomy place = let l = length_queue in let some : 0 < n = s.some in omega arith

  pub empty : count_at n m tail ≡ count_at n m head → (ring_queue n m tail head slots).items ≡ []
  empty same = nothing (ring_queue n m tail head slots).items (let l = length_queue in omega arith)
    where
      nothing : (xs : List T) → length xs ≡ 0 → xs ≡ []
      nothing [] e = refl
      nothing (x ∷ xs) e = absurd (omega arith)

  -- the mark is added to an open tail
  pub shuts : is_marked m tail ≡ false → BoundedAtRest n m (tail + m) head slots
  shuts unmarked = record {
    pushed = r.pushed;
    popped = r.popped;
    shut = 1;
    shut_once = omega arith;
    tail_is = let e = open_tail n m tail head slots s r unmarked in omega arith;
    head_is = r.head_is;
    behind = r.behind;
    within = r.within;
    few = r.few;
    wide = r.wide;
    filled = r.filled;
    free = r.free;
  }

  pub queue_shuts : is_marked m tail ≡ false → ring_queue n m (tail + m) head slots ≡ shut (ring_queue n m tail head slots)
  queue_shuts unmarked =
      ring_is n m s (tail + m) head slots r.pushed r.popped 1 (omega arith) (let e = open_tail n m tail head slots s r unmarked in
      omega arith) r.head_is
      ∙ sym (ap (λ (q : Queue). shut q) queue_is)

  -- the place at the head of a ring that is not empty
  pub first_value : count_at n m head < count_at n m tail → IsSome (slot_at slots (head % m)).value
  first_value some = subst (λ (i : ℕ). IsSome (slot_at slots i).value) (sym (head_index n m tail head slots s r))
      (r.filled r.popped (omega arith) (let c = counts in omega arith)).1

  first_held : (k : ℕ) (x : T) → (slot_at slots (head % m)).value ≡ Some x
      → held n slots r.popped (suc k) ≡ x ∷ held n slots (r.popped + 1) k
  first_held k x is =
      ap (λ (o : Option T). option_to_list o ++ held n slots (r.popped + 1) k)
      (ap (λ (i : ℕ). (slot_at slots i).value) (sym (head_index n m tail head slots s r)) ∙ is)

  pub first_item : (x : T) → count_at n m head < count_at n m tail → (slot_at slots (head % m)).value ≡ Some x
      → ring_queue n m tail head slots ≡ made (x ∷ held n slots (r.popped + 1) (r.pushed - (r.popped + 1))) (r.shut == 1) r.pushed
  first_item x some is =
      let k : ℕ = r.pushed - (r.popped + 1) in
      queue_is ∙ ap (λ (items : List T). made items (r.shut == 1) r.pushed)
      (ap (held n slots r.popped) (let z : r.pushed - r.popped ≡ suc k = let c = counts in omega arith in z) ∙ first_held k x is)

  pub items_first : (x : T) → count_at n m head < count_at n m tail → (slot_at slots (head % m)).value ≡ Some x
      → (ring_queue n m tail head slots).items ≡ x ∷ drop 1 (ring_queue n m tail head slots).items
  items_first x some is = let e = ap (λ (q : Queue). q.items) (first_item x some is) in e ∙ ap (λ (xs : List T). x ∷ drop 1 xs) (sym e)

  -- a take
  pub takes : count_at n m head < count_at n m tail → BoundedAtRest n m tail (next_at n m head) (emptied_at slots (head % m) (head + 2 * m))
  takes some =
      subst (BoundedAtRest n m tail (next_at n m head))
      (ap (λ (i : ℕ). emptied_at slots i (head + 2 * m)) (sym (head_index n m tail head slots s r))) (record {
        pushed = r.pushed;
        popped = r.popped + 1;
        shut = r.shut;
        shut_once = r.shut_once;
        tail_is = r.tail_is;
        head_is = next_head;
        behind = let c = counts in omega arith;
        within = let w = r.within in omega arith;
        few = r.few;
        wide = length-set slots (r.popped % n) (record { stamp = head + 2 * m; value = None }) ∙ r.wide;
        filled = λ p a b. filled_else p r.popped (record { stamp = head + 2 * m; value = None })
            (apart p r.popped (let w = r.within in omega arith) (omega arith) (λ e. absurd (omega arith))) (r.filled p (omega arith) b);
        free = λ p a b. dite (dec_le (r.popped + n) p)
            (λ last. subst (IsFree n m (emptied_at slots (r.popped % n) (head + 2 * m))) (let z : r.popped + n ≡ p = omega arith in z)
            (free_here r.popped (head + 2 * m) (ap (λ (w : ℕ). w + 2 * m) r.head_is ∙ sym (word_a_lap_on n m s r.popped))))
            (λ not. let below : p < r.popped + n = lt_of_not-le not in
            free_else p r.popped (record { stamp = head + 2 * m; value = None })
            (apart p r.popped (omega arith) (let c = counts in omega arith) (λ e. absurd (let c = counts in omega arith)))
            (r.free p a below));
      })

  pub queue_takes : (x : T) → count_at n m head < count_at n m tail → (slot_at slots (head % m)).value ≡ Some x
      → ring_queue n m tail (next_at n m head) (emptied_at slots (head % m) (head + 2 * m)) ≡ taken (ring_queue n m tail head slots)
  queue_takes x some is =
      ap (λ (i : ℕ). ring_queue n m tail (next_at n m head) (emptied_at slots i (head + 2 * m))) (head_index n m tail head slots s r)
      ∙ ring_is n m s tail (next_at n m head) (emptied_at slots (r.popped % n) (head + 2 * m)) r.pushed (r.popped + 1) r.shut r.shut_once
      r.tail_is next_head
      ∙ ap (λ (items : List T). made items (r.shut == 1) r.pushed)
      (held-set_other n slots (r.popped % n) (record { stamp = head + 2 * m; value = None }) (r.popped + 1) (r.pushed - (r.popped + 1))
      (λ q a b. apart q r.popped (let w = r.within in omega arith) (omega arith) (λ e. absurd (omega arith))))
      ∙ sym (ap (λ (q : Queue). taken q) (first_item x some is))

  -- a displacement: the place of the tail is that of the head
  same_place : count_at n m tail ≡ count_at n m head + n → tail % m ≡ head % m
  same_place place = tail_index n m tail head slots s r
      ∙ ap (λ (p : ℕ). p % n) (let c = counts in let z : r.pushed ≡ r.popped + n = omega arith in z)
      ∙ add-mod_right r.popped n ∙ sym (head_index n m tail head slots s r)

  ahead : count_at n m tail ≡ count_at n m head + n → count_at n m head < count_at n m tail
  ahead place = let some : 0 < n = s.some in omega arith

  pub last_value : count_at n m tail ≡ count_at n m head + n → IsSome (slot_at slots (tail % m)).value
  last_value place = subst (λ (i : ℕ). IsSome (slot_at slots i).value) (sym (same_place place)) (first_value (ahead place))

  some_item : (o : Option T) → IsSome o → (y : T) × (o ≡ Some y)
  some_item (Some y) some = (y, refl)
  some_item None some = absurd (let e : false ≡ true = some in cc)

  pub last_item : count_at n m tail ≡ count_at n m head + n → (y : T) × ((slot_at slots (tail % m)).value ≡ Some y)
  last_item place = some_item (slot_at slots (tail % m)).value (last_value place)

  pub displaces : (x : T) → is_marked m tail ≡ false → count_at n m tail ≡ count_at n m head + n → count_at n m tail < most_accepted
      → BoundedAtRest n m (next_at n m tail) (next_at n m head) (filled_at slots (tail % m) (tail + 1) x)
  displaces x unmarked place few = subst (BoundedAtRest n m (next_at n m tail) (next_at n m head)) (sym (at_tail x))
      (let c = counts in let b = r.behind in let w = r.within in let some : 0 < n = s.some in
      appended_at x (r.popped + 1) (next_at n m head) unmarked (omega arith) (omega arith) (omega arith) (omega arith)
      (λ p a b. absurd (omega arith)) next_head)

  pub items_displaced : (y : T) → count_at n m tail ≡ count_at n m head + n → (slot_at slots (tail % m)).value ≡ Some y
      → (ring_queue n m tail head slots).items ≡ y ∷ drop 1 (ring_queue n m tail head slots).items
  items_displaced y place is = items_first y (ahead place) (ap (λ (i : ℕ). (slot_at slots i).value) (sym (same_place place)) ∙ is)

  pub queue_displaces : (x y : T) → is_marked m tail ≡ false → count_at n m tail ≡ count_at n m head + n
      → (slot_at slots (tail % m)).value ≡ Some y
      → ring_queue n m (next_at n m tail) (next_at n m head) (filled_at slots (tail % m) (tail + 1) x)
      ≡ appended (taken (ring_queue n m tail head slots)) x
  queue_displaces x y unmarked place is =
      let some : 0 < n = s.some in
      ap (ring_queue n m (next_at n m tail) (next_at n m head)) (at_tail x)
      ∙ (let c = counts in queue_appended_at x (r.popped + 1) (next_at n m head) unmarked (omega arith) (omega arith) next_head)
      ∙ sym (ap (λ (q : Queue). appended (taken q) x)
      (first_item y (ahead place) (ap (λ (i : ℕ). (slot_at slots i).value) (sym (same_place place)) ∙ is)
      ∙ ap (λ (k : ℕ). made (y ∷ held n slots (r.popped + 1) (r.pushed - (r.popped + 1))) (k == 1) r.pushed) (is_open unmarked)))

  pub nothing_there : is_marked m tail ≡ false → count_at n m tail < count_at n m head + n → (slot_at slots (tail % m)).value ≡ None
  nothing_there unmarked place =
      let c = counts in
      ap (λ (i : ℕ). (slot_at slots i).value) (tail_index n m tail head slots s r) ∙ (r.free r.pushed (omega arith) (omega arith)).1

  -- what a look at both ends says
  same_count : (shut : ℕ) → shut ≤ 1 → tail ≡ word_at n m r.popped + shut * m → count_at n m tail ≡ count_at n m head
  same_count shut once is = ap (count_at n m) is ∙ count_of n m s r.popped shut once ∙ sym counts.1

  pub empty_by : (b : Bool) → ((tail == head) || (tail == head + m)) ≡ b → IsTrue b ↔ ((ring_queue n m tail head slots).items ≡ [])
  empty_by true told = (λ _. empty (meets told), λ _. refl)
    where
      meets : ((tail == head) || (tail == head + m)) ≡ true → count_at n m tail ≡ count_at n m head
      meets told =
          let bare : (tail ≡ head) ⊎ (tail ≡ head + m) = grind (arith, nat_tests) in
          elim bare as (λ _. count_at n m tail ≡ count_at n m head) [
            | inl e ↦ ap (count_at n m) e
            | inr e ↦ same_count 1 (omega arith) (let h = r.head_is in omega arith)
          ]
  empty_by false told = (λ yes. absurd (cc), λ none. absurd (apart_by none))
    where
      apart_by : (ring_queue n m tail head slots).items ≡ [] → ⊥
      apart_by none =
          let l = length_queue in let z = ap length none in let c = counts in let b = r.behind in
          let same : r.pushed ≡ r.popped = omega arith in
          let t : tail ≡ head + r.shut * m = r.tail_is ∙ ap (λ (p : ℕ). word_at n m p + r.shut * m) same
          ∙ ap (λ (w : ℕ). w + r.shut * m) (sym r.head_is) in
          let once : (r.shut ≡ 0) ⊎ (r.shut ≡ 1) = let o = r.shut_once in grind arith in
          elim once as (λ _. ⊥) [
            | inl e ↦ let u : tail ≡ head = t ∙ ap (λ (k : ℕ). head + k * m) e ∙ (omega (arith, zero-mul m)) in grind (arith, nat_tests)
            | inr e ↦ let u : tail ≡ head + m = t ∙ ap (λ (k : ℕ). head + k * m) e ∙ omega arith in grind (arith, nat_tests)
          ]

  a_lap_on : word_at n m (r.popped + n) ≡ head + 2 * m
  a_lap_on = word_a_lap_on n m s r.popped ∙ ap (λ (w : ℕ). w + 2 * m) (sym r.head_is)

  pub full_by : (b : Bool) → ((head + 2 * m == tail) || (head + 3 * m == tail)) ≡ b → IsTrue b ↔ IsFull (ring_queue n m tail head slots)
  full_by true told = (λ _. full (meets told), λ _. refl)
    where
      meets : ((head + 2 * m == tail) || (head + 3 * m == tail)) ≡ true → count_at n m tail ≡ count_at n m head + n
      meets told =
          let bare : (head + 2 * m ≡ tail) ⊎ (head + 3 * m ≡ tail) = grind (arith, nat_tests) in
          let c = counts in
          let lap = a_lap_on in
          elim bare as (λ _. count_at n m tail ≡ count_at n m head + n) [
            | inl e ↦ let k = ap (count_at n m) (sym e ∙ sym lap) ∙ count_of_word n m s (r.popped + n) in omega arith
            | inr e ↦ let k = ap (count_at n m) (let z : tail ≡ word_at n m (r.popped + n) + 1 * m = omega arith in z)
                ∙ count_of n m s (r.popped + n) 1 (omega arith) in omega arith
          ]
  full_by false told = (λ yes. absurd (cc), λ whole. absurd (apart_by whole))
    where
      apart_by : IsFull (ring_queue n m tail head slots) → ⊥
      apart_by whole =
          let l = length_queue in let c = counts in let b = r.behind in let some : 0 < n = s.some in
          let same : r.pushed ≡ r.popped + n = omega arith in
          let t : tail ≡ head + 2 * m + r.shut * m = r.tail_is ∙ ap (λ (p : ℕ). word_at n m p + r.shut * m) same
          ∙ ap (λ (w : ℕ). w + r.shut * m) a_lap_on in
          let once : (r.shut ≡ 0) ⊎ (r.shut ≡ 1) = let o = r.shut_once in grind arith in
          elim once as (λ _. ⊥) [
            | inl e ↦ let u : head + 2 * m ≡ tail = sym (t ∙ ap (λ (k : ℕ). head + 2 * m + k * m) e ∙ (omega (arith, zero-mul m))) in
                grind (arith, nat_tests)
            | inr e ↦ let u : head + 3 * m ≡ tail = sym (t ∙ ap (λ (k : ℕ). head + 2 * m + k * m) e ∙ omega arith) in
                grind (arith, nat_tests)
          ]
