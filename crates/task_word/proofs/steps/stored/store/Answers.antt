use Rattle.std.proofs.Common.{rules}
use Rattle.task_word.proofs.Storing.{stores}
use Rattle.task_word.proofs.steps.stored.store.Goals as goal

pub fetch_add-requires : goal.fetch_add-requires
fetch_add-requires g c = (search rules, search rules, stores _ _ c.args.pass.now.me c.requires.has.0)
