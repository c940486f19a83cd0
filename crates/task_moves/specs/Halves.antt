-- What a run does in one move of the abstract task takes two calls of a task with one owner, around the drop of the future:
-- the two halves make the whole.
use Rattle.std.specs.Prelude.{◌≡◌, Bool, true, false}
use Rattle.task_moves.specs.declared.local_task.answers.Back.TheVariants.{Pending}
use Rattle.task_moves.specs.declared.local_task.answers.FuturePlace.TheVariants.{Dropping}
use Rattle.task_moves.specs.AbstractTask as abstract
use Rattle.task_moves.specs.AbstractTask.{AbstractTask}
use Rattle.task_moves.specs.AbstractTask.Phase.{Queued}
use Rattle.task_moves.specs.LocalTask as local

abbrev pub is_polled : abstract.Phase → Bool
is_polled abstract.Phase.Polling = true
is_polled abstract.Phase.PollingWoken = true
is_polled _ = false

-- F is the type of the future, T of its output, A of its awaiter
pub record Halves (F T A : Type 0) : Type 0 where
  -- a poll that gave no output and the drop of the future
  pub pending : (f : F) (t : AbstractTask T A) → is_polled t.phase ≡ true → (local.settle (Pending f) t).future ≡ Dropping →
      local.finish (local.settle (Pending f) t).task ≡ abstract.end_pending t
  -- a poll that gave no output, where the future stays
  pub resting : (f : F) (t : AbstractTask T A) → is_polled t.phase ≡ true → local.is_home (local.settle (Pending f) t).future ≡ true →
      (local.settle (Pending f) t).task ≡ (abstract.end_pending t).task
  -- a run of a closed task
  pub closed : (t : AbstractTask T A) → t.phase ≡ Queued → t.closed ≡ true → local.finish (abstract.begin_run t) ≡ abstract.settle_closed t
  -- a turn that is let go
  pub let_go : (t : AbstractTask T A) → t.phase ≡ Queued → local.finish (record t { closed = true }) ≡ abstract.drop_runnable t
