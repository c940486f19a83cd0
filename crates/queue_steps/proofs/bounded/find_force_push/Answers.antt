use Rattle.queue_steps.proofs.BoundedFinds.{force_push_too, force_push_found}
use Rattle.queue_steps.proofs.bounded.find_force_push.Goals as goal

pub returns-in_default : goal.returns-in_default
returns-in_default g c =
    let a = c.args in
    force_push_too a.shape.capacity a.shape.mark a.tail a.head a.slots.now a.shape.sound c.requires c.find_push.result
    c.find_push.ensures c.in_default.not-HeadFor

pub returns-in-HeadFor : goal.returns-in-HeadFor
returns-in-HeadFor g c =
    let a = c.args in
    force_push_found a.shape.capacity a.shape.mark a.tail a.head a.slots.now a.shape.sound c.requires c.find_push.result
    c.force_push_at_head.result c.in-HeadFor.field-0 c.find_push.ensures c.in-HeadFor.is c.force_push_at_head.ensures
