use Rattle.std.proofs.Common.{sym, ◌∙◌}
use Rattle.queue_steps.proofs.BoundedRests.{length_queue}
use Rattle.queue_steps.proofs.bounded.BoundedRepresentation.len.Goals as goal

pub returns : goal.returns
returns g c =
    let a = c.self.inside in
    rw (← c.self.view_is)
    (c.len.ensures ∙ sym (length_queue a.shape.capacity a.shape.mark a.tail a.head a.slots.items a.shape.sound c.self.invariant))
