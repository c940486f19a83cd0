-- How the executor's drop goes on, and its leak.
use Rattle.std.specs.Prelude.{ℕ, zero, suc, List, [], ◌∷◌}
use Rattle.executor_parts.specs.declared.mark.Mark.{Mark}
use Rattle.executor_parts.specs.declared.mark.Mark.TheVariants.{Plain, Urgent}
use Rattle.call_steps.specs.declared.step.CallStep.{CallStep}
use Rattle.call_steps.specs.declared.step.CallStep.TheVariants as step
use Rattle.call_steps.specs.declared.step.table.ClosingStep.TheVariants.{DropNext, WakeNext, Close, Drain, LeakNext}

module _ {F T : Type 0} where
  -- first each future, then each waker, then the queues
  abbrev pub closing : ℕ → ℕ → List (CallStep F T)
  closing (suc futures) wakers = step.Closing DropNext ∷ []
  closing zero (suc wakers) = step.Closing WakeNext ∷ []
  closing zero zero = step.Closing (Close Urgent) ∷ []

  -- behind the urgent queue the plain one is closed; then both are drained, the urgent one first
  abbrev pub closed : Mark → List (CallStep F T)
  closed Urgent = step.Closing (Close Plain) ∷ []
  closed Plain = step.Closing (Drain Urgent) ∷ []

  abbrev pub drained : Mark → List (CallStep F T)
  drained Urgent = step.Closing (Drain Plain) ∷ []
  drained Plain = []

  -- each waker that a leak has taken out
  abbrev pub leaking : ℕ → List (CallStep F T)
  leaking (suc wakers) = step.Closing LeakNext ∷ []
  leaking zero = []
