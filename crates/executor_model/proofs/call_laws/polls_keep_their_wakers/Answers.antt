use Rattle.executor_model.proofs.Wakers.GivenWakers.{polls-keep}
use Rattle.executor_model.proofs.call_laws.polls_keep_their_wakers.Goals as goal

pub returns : goal.returns
returns c = polls-keep
