use Rattle.std.proofs.Math.Logic.{∥∥₁_map}
use Rattle.jobs.proofs.brought.Log.begin.Goals as goal

pub invariant_of-self : goal.invariant_of-self
invariant_of-self g c = record { theirs = ∥∥₁_map c.args.self.now.theirs (λ had. c.begin.ensures c.args.self.now.solved.items had) }
