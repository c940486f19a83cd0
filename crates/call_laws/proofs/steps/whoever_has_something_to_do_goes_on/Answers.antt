use Rattle.call_laws.proofs.Taking.{every-go}
use Rattle.call_laws.proofs.steps.whoever_has_something_to_do_goes_on.Goals as goal

pub returns : goal.returns
returns c = every-go
