use Rattle.std.proofs.Common.{arith}
use Rattle.queue_steps.proofs.BoundedWords.{place_fits}
use Rattle.concurrent_queue.proofs.bounded.popping.take.Goals as goal

pub overflow_add-head : goal.overflow_add-head
overflow_add-head g c =
    let shape = c.args.ring.now.shape in
    let fits = place_fits shape.capacity shape.mark c.args.head shape.sound c.requires.stands.4 in
    let lap = c.lap.ensures in
    omega arith
