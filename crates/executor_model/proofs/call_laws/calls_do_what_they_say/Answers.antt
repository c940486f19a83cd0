use Rattle.executor_model.proofs.Quiet.CallsDone.{calls-done}
use Rattle.executor_model.proofs.call_laws.calls_do_what_they_say.Goals as goal

pub returns : goal.returns
returns c = calls-done
