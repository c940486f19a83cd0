use Rattle.executor_model.proofs.WalksRound.Round.{go-round}
use Rattle.executor_model.proofs.laws.walks_go_round.Goals as goal

pub returns : goal.returns
returns c = go-round
