-- A step that closes an open task says why, in that very step: nobody is left who could wake its future, or it was cancelled.
use Rattle.std.specs.Prelude.{◌≡◌, ◌⊎◌, ℕ, true, false, ◌++◌}
use Rattle.executor_model.specs.declared.step.Step.{Step}
use Rattle.executor_model.specs.Steps.{Machine, step, stepped}
use Rattle.executor_model.specs.Trace.{Trace, has, is_cancelled, is_last_waker}
use Rattle.executor_model.specs.World.{World, task}

-- the task of future f is open; or it is closed, and was never completed
abbrev pub IsOpen : World → ℕ → Type 0
IsOpen w f = ((task w f).completed ≡ false) × ((task w f).closed ≡ false)

abbrev pub IsShut : World → ℕ → Type 0
IsShut w f = ((task w f).completed ≡ false) × ((task w f).closed ≡ true)

-- it is told that nobody is left who could wake the future, or that it was cancelled
abbrev pub SaysWhy : ℕ → Trace → Type 0
SaysWhy f more = (has (is_last_waker f) more ≡ true) ⊎ (has (is_cancelled f) more ≡ true)

-- whatever step closes the open task of future f, whether by the release of its last waker, by a detach, or by the end of a
-- poll that leaves none: what that step tells says why, unless the drop of the executor has begun, which closes all
abbrev pub ClosingSaysWhy : Machine → Type 0
ClosingSaysWhy s = (t : Step) (f : ℕ) (more : Trace) → (stepped s (step s t)).world.trace ≡ s.world.trace ++ more →
    IsOpen s.world f → IsShut (stepped s (step s t)).world f → SaysWhy f more ⊎ (s.world.gone ≡ true)
