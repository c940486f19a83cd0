use Rattle.executor_laws.proofs.Promptness.Makings.{made-is-made}
use Rattle.executor_laws.proofs.laws.what_is_made_is_new.Goals as goal

pub returns : goal.returns
returns c = made-is-made
