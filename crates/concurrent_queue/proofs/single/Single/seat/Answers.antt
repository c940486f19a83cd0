use Rattle.std.proofs.Common.{rules, false, refl, []}
use Rattle.concurrent_queue.specs.SingleRule.{doing}
use Rattle.concurrent_queue.specs.declared.single.rule.Stage.TheVariants.{Idle}
use Rattle.concurrent_queue.proofs.SingleKeeps.{enters}
use Rattle.concurrent_queue.proofs.single.Single.seat.Goals as goal

pub load_new_seat-requires : goal.load_new_seat-requires
load_new_seat-requires g c = (search rules, enters _ (doing Idle false []) refl)
