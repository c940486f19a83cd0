-- How an executor's drop keeps wakers, and how a leak and that drop call them.
use Rattle.std.specs.Prelude.{◌≡◌, ◌⊎◌, Option, Some, None, List, [], ◌∷◌}
use Rattle.async_task.specs.declared.cell.Identity.{Identity}
use Rattle.call_steps.specs.declared.step.CallStep.{CallStep}
use Rattle.call_steps.specs.declared.step.CallStep.TheVariants as step
use Rattle.call_steps.specs.declared.step.table.ClosingStep.TheVariants as closing_step

-- the waker of an entry that left, where it had one
abbrev pub listed : {V : Type 0} → Option V → List V
listed None = []
listed (Some waker) = waker ∷ []

-- a waker that came out of the table is called next
abbrev pub CallsWaker : Option (CallStep Identity (Unit {0})) → Type 0
CallsWaker next =
    (next ≡ Some (step.Closing closing_step.WakeNext)) ⊎ (next ≡ Some (step.Closing closing_step.LeakNext))
