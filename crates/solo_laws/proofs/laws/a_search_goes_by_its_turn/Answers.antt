use Rattle.solo_laws.proofs.Looks.{takes_by_turn}
use Rattle.solo_laws.proofs.laws.a_search_goes_by_its_turn.Goals as goal

pub returns : goal.returns
returns g c s = takes_by_turn s
