use Rattle.solo_laws.proofs.Counts.{none_is_lost}
use Rattle.solo_laws.proofs.laws.no_future_is_lost.Goals as goal

pub returns : goal.returns
returns g c limit kind calls first last = none_is_lost limit kind calls first last
