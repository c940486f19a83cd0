use Rattle.std.proofs.Math.Logic.{∥∥₁_map}
use Rattle.jobs.proofs.place.WorkplaceLabor.work.Goals as goal

pub returns-in-Ok : goal.returns-in-Ok
returns-in-Ok g c = ∥∥₁_map c.into_solved.ensures (λ came. came.1)
