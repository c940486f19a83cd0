use Rattle.std.proofs.Common.{rules, refl}
use Rattle.task_word.proofs.Awaiting.{empties}
use Rattle.task_word.proofs.steps.awaiter.empty.Goals as goal

pub swap-requires : goal.swap-requires
swap-requires g c = (search rules, search rules, empties _ _ c.args.pass.now.me _ c.requires.has.0 c.requires.has.1 refl)
