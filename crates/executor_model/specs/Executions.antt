-- What holds of every execution, whatever the parties do and in whatever order.
use Rattle.std.specs.Prelude.{◌≡◌, ℕ, ◌+◌, ◌≤◌, List, [], ◌∷◌, Result, Ok, Err}
use Rattle.executor_model.specs.declared.kind.Kind.{Kind}
use Rattle.executor_model.specs.declared.step.Step.{Step}
use Rattle.executor_model.specs.declared.step.StepError.{StepError}
use Rattle.executor_model.specs.World.{task}
use Rattle.executor_model.specs.Steps.{Machine, step, run, start}
use Rattle.executor_model.specs.Sound.{pend, tokens, living}

abbrev pub EveryExecution : (Machine → ℕ → Type 0) → Type 0
EveryExecution P =
    (limit : ℕ) (kind : Kind) (parties : ℕ) (steps : List Step) (f : ℕ) → P (run steps (start limit kind parties)) f

abbrev pub EveryMachine : (Machine → Type 0) → Type 0
EveryMachine P = (limit : ℕ) (kind : Kind) (parties : ℕ) (steps : List Step) → P (run steps (start limit kind parties))

-- f's count is its living wakers, those that are stored or on their way too, and one for a Runnable,
-- a run or a closing call
abbrev pub IsCounted : Machine → ℕ → Type 0
IsCounted s f = (task s.world f).references ≡ tokens s.world f (pend f s.parties) + living s.world f (pend f s.parties)

-- there is at most one Runnable, run or closing call of f
abbrev pub HasOneRunnable : Machine → ℕ → Type 0
HasOneRunnable s f = tokens s.world f (pend f s.parties) ≤ 1

-- these steps in order, each of which is possible, or why the first that isn't is refused
abbrev pub run_all : List Step → Machine → Result Machine StepError
run_all [] s = Ok s
run_all (t ∷ ts) s = elim (step s t) [ Ok new ↦ run_all ts new | Err error ↦ Err error ]
