use Rattle.queue_steps.proofs.BoundedMasks.{mark_masks}
use Rattle.queue_steps.proofs.steps.bounded.Shape.is_marked.Goals as goal

pub returns : goal.returns
returns c =
    let shape = c.args.self in
    mark_masks shape.capacity shape.mark c.args.tail shape.bits shape.sound shape.power
