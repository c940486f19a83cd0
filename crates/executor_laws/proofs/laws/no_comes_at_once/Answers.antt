use Rattle.executor_laws.proofs.Promptness.PromptExecutions.{no-comes-at-once}
use Rattle.executor_laws.proofs.laws.no_comes_at_once.Goals as goal

pub returns : goal.returns
returns c limit kind parties steps p = no-comes-at-once limit kind parties steps p
