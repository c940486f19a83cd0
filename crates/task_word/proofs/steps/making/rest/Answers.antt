use Rattle.std.proofs.Common.{rules}
use Rattle.task_word.proofs.Making.{rests_now}
use Rattle.task_word.proofs.steps.making.rest.Goals as goal

pub fetch_add-requires : goal.fetch_add-requires
fetch_add-requires g c = (search rules, search rules, rests_now _ _ c.args.pass.now.me c.requires.has.0)
