use Rattle.std.proofs.Common.{ℕ, ◌+◌, ◌-◌, ◌≡◌, ◌==◌, ◌++◌, if◌then◌else◌, option_to_list, sym, ◌∙◌}
use Rattle.std.specs.Mem.Slots.{slots_items, slots_len}
use Rattle.concurrent_queue.specs.Places.{items_from}
use Rattle.concurrent_queue.proofs.PlacesLeft.{looked_at, next_at_end, next_within}
use Rattle.concurrent_queue.proofs.places.take_here.Goals.{then-place-slot_count, else-place-slot_count}
use Rattle.concurrent_queue.proofs.places.take_here.Goals as goal

pub returns-clause-items : goal.returns-clause-items
returns-clause-items g c =
    let old = c.args.closed.now.slots in let at : ℕ = c.args.at.now in let next : ℕ = c.if-place-slot_count.at in
    let on : next ≡ (if at + 1 == slots_len old then 0 else at + 1) =
    elim c.if-place-slot_count.branch [
      | then-place-slot_count w ↦ next_at_end at (slots_len old) next (w.if-place-slot_count.true ∙ c.slot_count.ensures) w.at-is
      | else-place-slot_count w ↦ next_within at (slots_len old) next (λ e. w.if-place-slot_count.false (e ∙ sym c.slot_count.ensures))
          w.at-is
    ] in
    looked_at (slots_items old) (slots_len old) at c.args.left.now next c.take.result c.requires.some c.take.ensures.value on
    ∙ (λ i. option_to_list c.take.result ++ items_from (sym c.take.ensures.others.0 i) (sym c.take.ensures.others.2 i) next
    (c.args.left.now - 1))
