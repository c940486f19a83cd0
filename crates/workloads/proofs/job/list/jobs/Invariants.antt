use Rattle.std.proofs.Common.{◌≡◌, length, All}
use Rattle.jobs.specs.Answers.{IsInRange}
use Rattle.workloads.proofs.job.list.jobs.Given as goal

abbrev pub invariant-loop-number : goal.invariant-loop-number
invariant-loop-number l = All IsInRange l.list.items × (length l.list.items ≡ l.number)
