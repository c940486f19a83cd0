use Rattle.std.proofs.Common.{subst, sym, ap, ◌∙◌, Some, ℕ}
use Rattle.queue_steps.specs.BoundedAtRest.{AreFresh}
use Rattle.queue_steps.specs.ClosableQueue.{new_queue}
use Rattle.queue_steps.proofs.BoundedFresh.{fresh_rests, fresh_queue}
use Rattle.queue_steps.proofs.bounded.Bounded.new.Goals as goal

pub invariant_of-result : goal.invariant_of-result
invariant_of-result g c =
    let slots = c.in_ok-slots.slots.items in
    fresh_rests c.new.result.capacity c.new.result.mark slots c.new.result.sound
    (subst (λ (k : ℕ). AreFresh k slots) (sym c.new.ensures.capacity) c.in_ok-slots.ensures.slots)

pub returns : goal.returns
returns g c =
    fresh_queue c.new.result.capacity c.new.result.mark c.in_ok-slots.slots.items c.new.result.sound
    ∙ ap (λ (k : ℕ). new_queue (Some k) (Some 0)) c.new.ensures.capacity
