-- Which runs users' codes are in: in the poll of a run, as it runs what it took too, or in its drop.
use Rattle.std.specs.Prelude.{ℕ, List, [], ◌∷◌, ◌++◌, Option, Some, None}
use Rattle.plain_scheduler.specs.State.{Close, Code, Drop, DropOwn, Lose, Poll, PollOwn, Run, Taker, Tick, Try}

module _ {A : Type 0} where
  abbrev pub run_of : Taker A → List ℕ
  run_of Try = []
  run_of (Tick t w) = []
  run_of (Run r w) = r ∷ []

  abbrev pub run_if : Option (Taker A) → List ℕ
  run_if None = []
  run_if (Some by) = run_of by

-- where its own future is dropped this counts
module _ {T A : Type 0} (gone : ℕ → List ℕ) where
  abbrev pub run_in : Code T A → List ℕ
  run_in (Poll f by) = run_of by
  run_in (Drop f end by) = run_of by
  run_in (Lose awaiter by) = run_if by
  run_in (PollOwn r w) = r ∷ []
  run_in (DropOwn r answer) = gone r
  run_in (Close fs all) = []

  abbrev pub runs_in : List (Code T A) → List ℕ
  runs_in [] = []
  runs_in (code ∷ codes) = run_in code ++ runs_in codes

module _ {T A : Type 0} where
  -- in the poll of a run
  abbrev pub polled_in : List (Code T A) → List ℕ
  polled_in codes = runs_in (λ r. []) codes

  -- or in its drop
  abbrev pub busy_in : List (Code T A) → List ℕ
  busy_in codes = runs_in (λ r. r ∷ []) codes
