use Rattle.executor_laws.proofs.CallSteps.Begins.{calls-begin}
use Rattle.executor_laws.proofs.following.calls_begin_as_asked.Goals as goal

pub returns : goal.returns
returns c = calls-begin
