use Rattle.std.proofs.Common.{sym}
use Rattle.queue_steps.proofs.BoundedRests.{empty_by}
use Rattle.queue_steps.proofs.bounded.BoundedRepresentation.is_empty.Goals as goal

pub returns : goal.returns
returns g c =
    let a = c.self.inside in
    rw (← c.self.view_is)
    (empty_by a.shape.capacity a.shape.mark a.tail a.head a.slots.items a.shape.sound c.self.invariant c.is_empty.result
    (sym c.is_empty.ensures))
