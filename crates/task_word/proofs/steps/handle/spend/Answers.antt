use Rattle.std.proofs.Common.{rules}
use Rattle.task_word.proofs.Letting.{spends}
use Rattle.task_word.proofs.steps.handle.spend.Goals as goal

pub load-requires : goal.load-requires
load-requires g c = (search rules, search rules, spends _ _ c.args.pass.now.me c.requires.has.0 c.requires.has.1)
