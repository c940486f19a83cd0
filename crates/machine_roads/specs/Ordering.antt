-- The list of the runs' own queues behind an act: the runs in the order in which they were first polled, of those that haven't gone.
use Rattle.std.specs.Prelude.{◌≡◌, ℕ, true, List, Ok, reverse}
use Rattle.executor_model.specs.declared.kind.Kind.{Kind}
use Rattle.executor_model.specs.declared.op.Waker.{Waker}
use Rattle.executor_model.specs.declared.step.Step.{Step}
use Rattle.executor_model.specs.Executions.{run_all}
use Rattle.executor_model.specs.Steps.{Machine, stack, start}
use Rattle.plain_scheduler.specs.State.{Plain}
use Rattle.plain_scheduler.specs.Calls.{Call}
use Rattle.plain_scheduler.specs.Usual.{order_by}
use Rattle.machine_roads.specs.View.{Output}
use Rattle.machine_roads.specs.Within.{Act, IsAct, IsMade, StandsAlike, is_on_way, standing}

-- as the call says that the act is
abbrev pub ActsKeepOrder : Type 0
ActsKeepOrder =
    (limit : ℕ) (kind : Kind) (parties : ℕ) (steps : List Step) (s : Machine) → run_all steps (start limit kind parties) ≡ Ok s
    → (q : Plain Output Waker) (a : Act) (call : Call Output Waker) → StandsAlike (standing s a.party) q → IsAct s a
    → is_on_way (reverse (stack s a.party)) a.first ≡ true → IsMade s a.party a.first call
    → a.left.world.listed ≡ order_by call q s.world.listed
