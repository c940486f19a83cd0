use Rattle.solo_laws.proofs.Showing.StillOrdered.{calls_order}
use Rattle.solo_laws.proofs.counting.runs_stand_in_order.Goals as goal

pub returns : goal.returns
returns g c = calls_order
