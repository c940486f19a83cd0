-- For living_wakers_are_few.
use Rattle.std.proofs.Common.{ℕ, List}
use Rattle.executor_model.specs.Steps.{run, start}
use Rattle.executor_model.proofs.Steps.Lift.{good}
use Rattle.call_laws.proofs.Types.{Kind, Step}
use Rattle.call_laws.specs.LivingWakers.{FewLive}

pub few-live : (limit : ℕ) (kind : Kind) (parties : ℕ) (steps : List Step) (f : ℕ) → FewLive (run steps (start limit kind parties)) f
few-live limit kind parties steps f = ((good limit kind parties steps).sound f).few
