use Rattle.queue_steps.proofs.BoundedFinds.{closed_first, push_found}
use Rattle.queue_steps.proofs.bounded.find_push.Goals as goal

pub returns-in_default : goal.returns-in_default
returns-in_default g c =
    let a = c.args in
    closed_first a.shape.capacity a.shape.mark a.tail a.head a.slots.now a.shape.sound c.requires c.push_at_tail-turn.result
    c.push_at_tail-turn.ensures.plain c.in_default.not-Stamp

pub returns : goal.returns
returns g c =
    let a = c.args in
    push_found a.shape.capacity a.shape.mark a.tail a.head a.slots.now a.shape.sound c.requires c.push_at_tail-turn.result
    c.push_at_stamp.result c.in-Stamp.field-0 c.index.result c.index-slots-index.result c.push_at_tail-turn.ensures.plain c.in-Stamp.is
    c.index.ensures c.push_at_stamp.ensures.plain
