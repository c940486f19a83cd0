use Rattle.solo_laws.proofs.Counts.{comes_back}
use Rattle.solo_laws.proofs.laws.a_refused_future_comes_back.Goals as goal

pub returns : goal.returns
returns g c limit kind calls first last = comes_back limit kind calls first last
