use Rattle.std.proofs.Common.{arith}
use Rattle.queue_steps.proofs.BoundedWords.{place_fits}
use Rattle.concurrent_queue.proofs.bounded.pushing.append.Goals as goal

pub overflow_add-tail : goal.overflow_add-tail
overflow_add-tail g c =
    let shape = c.args.ring.now.shape in
    let fits = place_fits shape.capacity shape.mark c.args.tail shape.sound c.requires.stands.2 in
    let above = shape.sound.above in
    omega arith
