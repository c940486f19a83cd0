-- What a contract sees of a handle to a shared task, of any kind: which task it is of, and the metadata of that task. Only the
-- type of a task with one owner says what its cell has under its lock.
use Rattle.std.specs.Prelude.{◌≡◌, Bool}
use Rattle.async_task.specs.declared.cell.Identity.{Identity}
use Rattle.async_task.specs.declared.cell.Kept.{Kept}
use Rattle.task_word.specs.declared.cell.Cell.{Cell}
use Rattle.task_word.specs.declared.tokens.claim.Claim.{Claim}

pub record Handle (M : Type 0) : Type 0 where
  pub identity : Identity
  pub metadata : M

-- what a contract sees of a handle that is polled: also of which cell it is, the claim of the seat that has it, and whether a poll
-- has given the output
pub record Polling (F T M W : Type 0) : Type 0 where
  pub identity : Identity
  pub metadata : M
  pub cell : Cell F T (Kept W)
  pub claim : Claim
  pub given : Bool

abbrev pub task_of : {F T M W : Type 0} → Polling F T M W → Handle M
task_of polling = record { identity = polling.identity; metadata = polling.metadata }

-- what a contract sees of a handle that cancels its task: whether it has
pub record Cancelling (F T M W : Type 0) : Type 0 where
  pub task : Handle M
  pub is_cancelled : Bool
  pub cell : Cell F T (Kept W)
  pub claim : Claim
  pub given : Bool

-- what a contract sees of what rests in a task's cell: which task that is
pub record Resting : Type 0 where
  pub identity : Identity

-- both are of one task
abbrev pub IsOfOneTask : {M : Type 0} → Handle M → Handle M → Type 0
IsOfOneTask a b = a.identity ≡ b.identity
