use Rattle.std.proofs.Common.{arith}
use Rattle.queue_steps.proofs.BoundedMasks.{bits_few}
use Rattle.queue_steps.proofs.steps.bounded.Shape.count.Goals as goal

pub overflow_add-result : goal.overflow_add-result
overflow_add-result c =
    let shape = c.args.self in let few = bits_few shape.capacity shape.mark shape.bits shape.sound shape.power in
    omega arith

pub overflow_shr-result : goal.overflow_shr-result
overflow_shr-result c =
    let shape = c.args.self in
    bits_few shape.capacity shape.mark shape.bits shape.sound shape.power
