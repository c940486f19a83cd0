-- What came back of a list of jobs, in the lists that workers came back with.
use Rattle.std.specs.Prelude.{◌≡◌, ℕ, List, Vec, Some, length, slice_get}
use Rattle.std.specs.Global.{Global}
use Rattle.jobs.specs.Gathered.{EachCameOnce, IsLeastMissing}
use Rattle.jobs.specs.declared.job.Job.{Job}
use Rattle.jobs.specs.declared.job.Solved.{Solved}

-- there is a list for each of this many threads, and each is one that a thread comes back with
pub record AreBrought (brings : Vec Solved Global → Type 0) (threads : ℕ) (returned : List (Vec Solved Global)) : Type 0 where
  pub all : length returned ≡ threads
  pub each : (seed : ℕ) (solved : Vec Solved Global) → slice_get returned seed ≡ Some solved → brings solved

module _ {P : Type 0} where
  -- this many threads of a place came back with lists in which each of the jobs stands once
  abbrev pub AllCameBack : (P → Vec Solved Global → Type 0) → ℕ → List Job → Type 0
  AllCameBack brings threads jobs =
      (place : P) × (returned : List (Vec Solved Global)) × AreBrought (brings place) threads returned × EachCameOnce jobs returned

  -- this many threads of a place came back with lists, and the job of this number is the first that doesn't stand in them once
  abbrev pub CameBackUpTo : (P → Vec Solved Global → Type 0) → ℕ → List Job → ℕ → Type 0
  CameBackUpTo brings threads jobs number =
      (place : P) × (returned : List (Vec Solved Global)) × AreBrought (brings place) threads returned × IsLeastMissing jobs returned number
