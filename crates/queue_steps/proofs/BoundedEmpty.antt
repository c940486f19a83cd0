-- In an empty ring each place waits for an item.
use Rattle.std.proofs.Common.{◌≡◌, ℕ, ◌+◌, ◌-◌, ◌*◌, ◌/◌, ◌%◌, ◌<◌, ◌≤◌, List, [], length, None, sym, ap, ◌∙◌, subst, mod-lt, div-add-mod'}
use Rattle.std.proofs.Common.{lt_of_not-le, arith}
use Rattle.std.proofs.lemmas.List.{get_or_default}
use Rattle.std.proofs.Math.Arith.{digits_mod}
use Rattle.std.specs.Prelude.{slice_index_or}
use mathlib.Core.Logic.{dite}
use native.Mathlib.Decide.{dec_le}
use native.Mathlib.Nat.{add-mod_right}
use Rattle.queue_steps.specs.declared.bounded.Slot.{Slot}
use Rattle.queue_steps.specs.ClosableQueue.{ClosableQueue}
use Rattle.queue_steps.specs.Bounded.{IsShape}
use Rattle.queue_steps.specs.BoundedAtRest.{slot_at, BoundedAtRest, ring_queue}
use Rattle.queue_steps.proofs.BoundedRests.{queue_is, length_items}

-- within a lap from any count on there is one for each place
count_for : (n p k : ℕ) → k < n → (q : ℕ) × (p ≤ q) × (q < p + n) × (q % n ≡ k)
count_for n p k near =
    let whole : p / n * n + p % n ≡ p = div-add-mod' p n in let part : p % n < n = mod-lt p (omega arith) in
    let q : ℕ = p / n * n + k in let at : q % n ≡ k = digits_mod (p / n) near in
    dite (dec_le p q)
    (λ le. (q, le, (let z : p / n * n + p % n ≡ p = whole in omega arith), at))
    (λ not. let less : q < p = lt_of_not-le not in (q + n, omega arith, omega arith, add-mod_right q n ∙ at))

module _ {T : Type 0} (n m tail head : ℕ) (slots : List (Slot T)) (s : IsShape n m) (r : BoundedAtRest n m tail head slots) where
  none_left : (ring_queue n m tail head slots).items ≡ [] → r.pushed ≡ r.popped
  none_left empty =
      let here : r.pushed - r.popped ≡ 0 =
      sym (length_items n m tail head slots s r)
      ∙ ap (λ (q : ClosableQueue T). length q.items) (sym (queue_is n m tail head slots s r)) ∙ ap length empty in
      let behind = r.behind in omega arith

  pub all_free : (ring_queue n m tail head slots).items ≡ [] → (k : ℕ) (d : Slot T) → k < length slots
      → (slice_index_or slots k d).value ≡ None
  all_free empty k d near =
      let below : k < n = subst (λ (z : ℕ). k < z) r.wide near in
      let none = none_left empty in
      let p = count_for n r.popped k below in
      ap (λ (x : Slot T). x.value) (get_or_default slots k d (record { stamp = 0; value = None }) near)
      ∙ ap (λ (i : ℕ). (slot_at slots i).value) (sym p.3) ∙ (r.free p.0 (let z = p.1 in omega arith) p.2).1
