use Rattle.executor_laws.proofs.Exactness.LoneAnswers.{lone-ticks, lone-emptinesses}
use Rattle.executor_laws.proofs.laws.lone_calls_are_exact.Goals as goal

pub returns-clause-ticks : goal.returns-clause-ticks
returns-clause-ticks c = lone-ticks

pub returns-clause-emptiness : goal.returns-clause-emptiness
returns-clause-emptiness c = lone-emptinesses
