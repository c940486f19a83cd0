use Rattle.executor_model.specs.Entries.{FindsPlace}
use Rattle.executor_model.proofs.Table.Entering.{places, finds-place}
use Rattle.executor_model.proofs.laws.no_append_is_refused_full.Goals as goal

pub returns : goal.returns
returns c = places FindsPlace (λ s f fine h. finds-place s f fine h)
