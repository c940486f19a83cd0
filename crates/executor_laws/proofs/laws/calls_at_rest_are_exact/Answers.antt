use Rattle.executor_laws.proofs.Exactness.Begun.{ticks-are-exact, emptiness-is-exact}
use Rattle.executor_laws.proofs.laws.calls_at_rest_are_exact.Goals as goal

pub returns-clause-ticks : goal.returns-clause-ticks
returns-clause-ticks c limit kind parties steps p = ticks-are-exact limit kind parties steps p

pub returns-clause-emptiness : goal.returns-clause-emptiness
returns-clause-emptiness c limit kind parties steps p = emptiness-is-exact limit kind parties steps p
