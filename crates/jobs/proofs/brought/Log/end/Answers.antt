-- The list is the one that the log had.
use Rattle.std.proofs.Common.{sym, subst}
use Rattle.std.specs.Prelude.{Vec}
use Rattle.std.specs.Global.{Global}
use Rattle.std.proofs.Math.Logic.{∥∥₁_map}
use Rattle.jobs.specs.declared.job.Solved.{Solved}
use Rattle.jobs.proofs.brought.Log.end.Goals as goal

pub invariant_of-result : goal.invariant_of-result
invariant_of-result g c =
    let log = c.args.self.now in
    let Came : Vec Solved Global → Type 0 = λ solved. ∥ g.D.Desk.has_brought log.desk solved.items ∥₁ in
    record { theirs = ∥∥₁_map (subst Came (sym c.replace-solved.ensures.value) log.theirs) (λ came. (log.desk, came)) }
