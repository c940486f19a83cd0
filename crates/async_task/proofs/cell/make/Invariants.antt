use Rattle.std.proofs.Common.{◌≡◌}
use Rattle.async_task.proofs.cell.make.Given as goal

abbrev pub invariant-loop : goal.invariant-loop
invariant-loop g l = l.parts ≡ l.initial.parts
