use Rattle.call_laws.proofs.Together.{all-laws}
use Rattle.call_laws.proofs.all.calls_keep_all_laws.Goals as goal

pub returns : goal.returns
returns c = all-laws
