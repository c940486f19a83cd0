use Rattle.executor_laws.proofs.Marking.MarkTurns.{one-of-eight}
use Rattle.executor_laws.proofs.laws.one_turn_of_eight_is_plain.Goals as goal

pub returns : goal.returns
returns c = one-of-eight
