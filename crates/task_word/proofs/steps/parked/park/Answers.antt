use Rattle.std.proofs.Common.{rules}
use Rattle.task_word.proofs.Storing.{parks}
use Rattle.task_word.proofs.steps.parked.park.Goals as goal

pub fetch_add-requires : goal.fetch_add-requires
fetch_add-requires g c = (search rules, search rules, parks _ _ c.args.pass.now.me c.requires.has.0)
