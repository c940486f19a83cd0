use Rattle.std.proofs.Common.{rules}
use Rattle.task_word.proofs.Keeps.{looks}
use Rattle.task_word.proofs.steps.look.Goals as goal

pub load-requires : goal.load-requires
load-requires g c = (search rules, search rules, looks _ _ _)
