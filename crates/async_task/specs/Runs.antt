-- How a run begins and ends.
use Rattle.std.specs.Prelude.{◌≡◌, Bool, true, false, is_some, Option, Some, MatchOption, MatchResult, ⊤}
use Rattle.atomic_table.specs.declared.shared.Shared.{Shared}
use Rattle.async_task.specs.declared.cell.Kept.{Kept}
use Rattle.async_task.specs.declared.cell.scheduled.Due.{Due}
use Rattle.async_task.specs.declared.cell.turns.Remains.{Remains}
use Rattle.async_task.specs.declared.runnable.Closed.{Closed}
use Rattle.async_task.specs.declared.runnable.Closed.TheVariants.{Runnable, Run, Left}
use Rattle.async_task.specs.declared.runnable.RunEnd.{RunEnd}
use Rattle.async_task.specs.declared.runnable.RunEnd.TheVariants.{Over, Pause, Drop}
use Rattle.async_task.specs.declared.runnable.Started.{Started}
use Rattle.async_task.specs.declared.runnable.Started.TheVariants.{Poll as PollIt, Drop as DropIt}
use Rattle.async_task.specs.declared.waker.Awaiter.{Awaiter}
use Rattle.async_task.specs.declared.wake.Wake.{Ghosts}
use Rattle.async_task.specs.Handles.{Handle}
use Rattle.async_task.specs.Awaiters.{IsLentBy}
use Rattle.task_moves.specs.declared.local_task.answers.Back.{Back}
use Rattle.task_moves.specs.declared.local_task.answers.Back.TheVariants.{Ready, Pending}
use Rattle.task_moves.specs.declared.moves.owed.Owed.{Owed}
use Rattle.task_moves.specs.Moves as moves
use Rattle.task_word.specs.declared.rule.View.{View}
use Rattle.task_word.specs.declared.tokens.claim.Claim.{Claim}
use Rattle.task_word.specs.Cell.{Slot}
use Rattle.task_word.specs.Tokens.{Shows, ShowsSeat, Owes}

-- whether a future is dropped because its task was closed, and not because nobody can reach the task any more
abbrev pub was_closed : {F T W : Type 0} → Closed F T W → Bool
was_closed (Runnable closed) = true
was_closed (Run closed) = true
was_closed (Left remains) = false

module _ {F T W K P : Type 0} where
  -- this is left to be done by the move that the end of a poll with no output makes, on the word of this board
  abbrev pub IsLeftBy : Shared (Slot F T (Kept W)) View K P → Remains F T W → Type 0
  IsLeftBy board remains = MatchOption remains.left.awaiter
      (MatchResult remains.left.runnable
      (λ r. Shows board moves.end_pending remains.owed r.claim)
      (λ t. Shows board moves.end_pending remains.owed t.claim))
      (λ awaiter. Owes moves.end_pending remains.owed)

  -- the same, where the future is to be dropped first; another move follows exactly where the task was closed
  abbrev pub ClosesBy : Shared (Slot F T (Kept W)) View K P → Closed F T W → Type 0
  ClosesBy board (Left remains) =
      IsLeftBy board remains × (is_some remains.owed.next ≡ false) × (is_some remains.owed.future ≡ true)
  ClosesBy board (Run closed) = (owed : Owed) × ShowsSeat board moves.end_pending owed closed.pass × (is_some owed.next ≡ true)
      × (is_some owed.future ≡ true)
  ClosesBy board (Runnable closed) = ⊥

module _ {F T S M W R K P : Type 0} where
  -- With an output the run is over. Without one it has made the move that ends such a poll, on its own task's word: the future is
  -- dropped exactly where that move says so, and what the move left is left to the call that finishes.
  abbrev pub EndsRun : Shared (Slot F T (Kept W)) View K P → Awaiter F T S M W R → Back F T → RunEnd F T S M W R → Type 0
  EndsRun board waker (Ready output) Over = ⊤
  EndsRun board waker (Ready output) (Pause pause) = ⊥
  EndsRun board waker (Ready output) (Drop future closing) = ⊥
  EndsRun board waker (Pending future) Over = ⊥
  EndsRun board waker (Pending future) (Pause pause) =
      IsLentBy waker pause.held × IsLeftBy board pause.remains × (is_some pause.remains.owed.future ≡ false)
  EndsRun board waker (Pending future) (Drop dropped closing) =
      (dropped ≡ future) × IsLentBy waker closing.held × ClosesBy board closing.closed

module _ {F T S M W R K P : Type 0} where
  -- without an output it has made the move that ends such a poll, on its own task's word: the task is due exactly where that move says so
  abbrev pub PausesBy : Shared (Slot F T (Kept W)) View K P → Awaiter F T S M W R → Option (Due F T S M W R) → Type 0
  PausesBy board waker due = (owed : Owed) × (claim : Claim) × Shows board moves.end_pending owed claim
      × MatchOption due (is_some owed.schedule ≡ false) (λ due. IsLentBy waker due.runnable × (owed.schedule ≡ Some due.info))

module _ {F T S M W R : Type 0} where
  -- what a Runnable begins is a run or a closing call of its own task, which is closed then
  abbrev pub BeginsAt : {wakes : Ghosts W} → Handle M → Started F T S M W R wakes → Type 0
  BeginsAt task (PollIt future running) = IsLentBy running.waker task
  BeginsAt task (DropIt future closing) = (closing.held ≡ task) × (was_closed closing.closed ≡ true)
