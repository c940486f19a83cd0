-- The drop of the executor wakes those that it has dropped in the order in which they were accepted, and a leak those of
-- which the table had a waker.
use Rattle.std.specs.Prelude.{◌≡◌, ◌⊎◌, ℕ, true, List, ◌∷◌, ◌++◌}
use Rattle.task_moves.specs.Moves.{is_over}
use Rattle.executor_model.specs.declared.step.Step.{Step}
use Rattle.executor_model.specs.ClosingOrder.{Ascends}
use Rattle.executor_model.specs.Steps.{Machine, step, stepped}
use Rattle.executor_model.specs.Trace.{Trace, has, is_woken}
use Rattle.executor_model.specs.World.{World, task}

-- behind some more, future f is still the first of those that are to be woken, and no other has gone; or it has gone, and
-- was woken, unless its task was completed or closed
abbrev pub StaysFirst : World → World → ℕ → List ℕ → Trace → Type 0
StaysFirst w v f rest more = ((added : List ℕ) × (v.waking ≡ (f ∷ rest) ++ added))
    ⊎ ((v.waking ≡ rest) × ((has (is_woken f) more ≡ true) ⊎ (is_over (task w f) ≡ true)))

-- those that the drop of the executor has dropped and has still to wake, or that a leak has still to wake, and behind them
-- those that the drop has still to drop, stand in the order of acceptance; and each is woken once it is the first
pub record WakesInOrder (s : Machine) : Type 0 where
  pub waits : Ascends (s.world.waking ++ s.world.leaving)
  pub turns : (t : Step) (f : ℕ) (rest : List ℕ) (more : Trace) → s.world.waking ≡ f ∷ rest →
      (stepped s (step s t)).world.trace ≡ s.world.trace ++ more →
      StaysFirst s.world (stepped s (step s t)).world f rest more
