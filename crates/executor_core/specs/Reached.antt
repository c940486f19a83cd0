-- The states to which steps lead.
use Rattle.std.specs.Prelude.{◌≡◌, ℕ, List}
use Rattle.executor_model.specs.declared.kind.Kind.{Kind}
use Rattle.executor_model.specs.declared.step.Step.{Step}
use Rattle.executor_model.specs.Steps.{Machine, run, start}

-- some steps of a new machine led here
pub record IsReached (s : Machine) : Type 0 where
  pub limit : ℕ
  pub kind : Kind
  pub parties : ℕ
  pub steps : List Step
  pub here : s ≡ run steps (start limit kind parties)
