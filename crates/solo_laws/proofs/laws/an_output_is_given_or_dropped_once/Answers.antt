use Rattle.solo_laws.proofs.Given.{outputs_balance}
use Rattle.solo_laws.proofs.laws.an_output_is_given_or_dropped_once.Goals as goal

pub returns : goal.returns
returns g c weigh limit kind calls first last = outputs_balance weigh limit kind calls first last
