use Rattle.call_laws.proofs.Interleaving.{interleave}
use Rattle.call_laws.proofs.begins.two_parties_interleave.Goals as goal

pub returns : goal.returns
returns c = interleave
