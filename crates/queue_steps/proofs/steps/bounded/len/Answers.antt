use Rattle.std.proofs.Common.{arith}
use Rattle.queue_steps.proofs.BoundedMasks.{bits_few}
use Rattle.queue_steps.proofs.steps.bounded.len.Goals as goal

pub overflow_add-lap : goal.overflow_add-lap
overflow_add-lap c =
    let shape = c.args.shape in let few = bits_few shape.capacity shape.mark shape.bits shape.sound shape.power in
    omega arith

pub overflow_shr-tail : goal.overflow_shr-tail
overflow_shr-tail c =
    let shape = c.args.shape in
    bits_few shape.capacity shape.mark shape.bits shape.sound shape.power

pub overflow_shr-head : goal.overflow_shr-head
overflow_shr-head c =
    let shape = c.args.shape in
    bits_few shape.capacity shape.mark shape.bits shape.sound shape.power
