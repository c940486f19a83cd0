use Rattle.solo_laws.proofs.Weights.{balances}
use Rattle.solo_laws.proofs.laws.what_goes_in_comes_out_once.Goals as goal

pub returns : goal.returns
returns g c weigh limit kind calls first last = balances weigh limit kind calls first last
