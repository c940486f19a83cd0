use Rattle.std.proofs.Common.{List, Vec, subst}
use Rattle.std.specs.Global.{Global}
use Rattle.std.proofs.lemmas.Result.{IfOk-weaker}
use Rattle.jobs.specs.Gathered.{EachCameOnce, IsLeastMissing}
use Rattle.jobs.specs.declared.job.Solved.{Solved}
use Rattle.jobs.proofs.running.run_jobs.Goals as goal

pub returns-in-Ok-work_together-clause-once : goal.returns-in-Ok-work_together-clause-once
returns-in-Ok-work_together-clause-once g c =
    let came = c.in-Ok-work_together in
    IfOk-weaker c.gather.result _ _ (λ answers once.
    (c.in-Ok.place, came.returned.items, came.ensures, subst (EachCameOnce c.args.jobs.now) c.deref.ensures.value once))
    c.gather.ensures.once

pub returns-in-Ok-work_together-clause-missing : goal.returns-in-Ok-work_together-clause-missing
returns-in-Ok-work_together-clause-missing g c = λ number is.
    let came = c.in-Ok-work_together in
    let IsSo : List (Vec Solved Global) → Type 0 = λ returned. IsLeastMissing c.args.jobs.now returned number in
    (c.in-Ok.place, came.returned.items, came.ensures, subst IsSo c.deref.ensures.value (c.gather.ensures.missing number is))
