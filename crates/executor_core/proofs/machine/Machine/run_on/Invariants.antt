use Rattle.std.proofs.Common.{◌≡◌, take, Ok}
use Rattle.executor_model.specs.Executions.{run_all}
use Rattle.executor_core.specs.Reached.{IsReached}
use Rattle.executor_core.proofs.machine.Machine.run_on.Given as goal

abbrev pub invariant-loop-i : goal.invariant-loop-i
invariant-loop-i l = (run_all (take l.i l.list) l.fn.self ≡ Ok l.self) × IsReached l.self
