-- What a poll of a handle finds.
use Rattle.std.specs.Prelude.{◌≡◌, Bool, true, false, Option, Some, None, Result, Ok, Err, ⊤}
use Rattle.atomic_table.specs.declared.shared.Shared.{Shared}
use Rattle.async_task.specs.declared.errors.NoMemory.{NoMemory as WithoutMemory}
use Rattle.async_task.specs.declared.poll.Poll.{Poll}
use Rattle.async_task.specs.declared.poll.Poll.TheVariants as polls
use Rattle.async_task.specs.declared.poll.Poll.TheVariants.{Ready}
use Rattle.async_task.specs.declared.polling.Found.{Found}
use Rattle.async_task.specs.declared.polling.Found.TheVariants.{Output, Closed, Pending, NoMemory}
use Rattle.async_task.specs.declared.task.TaskError.{TaskError}
use Rattle.async_task.specs.declared.task.TaskError.TheVariants as errors
use Rattle.task_moves.specs.declared.moves.state.State.{State}
use Rattle.task_moves.specs.declared.moves.owed.Answer.{Answer}
use Rattle.task_moves.specs.declared.moves.owed.Answer.TheVariants as answers
use Rattle.task_moves.specs.declared.moves.owed.Moved.{Moved}
use Rattle.task_moves.specs.declared.moves.owed.Owed.{Owed}
use Rattle.task_moves.specs.Moves as moves
use Rattle.task_word.specs.declared.rule.View.{View}
use Rattle.task_word.specs.declared.tokens.Task.{Task}
use Rattle.task_word.specs.declared.tokens.claim.Claim.{Claim}
use Rattle.task_word.specs.declared.tokens.handles.OwingTask.{OwingTask}
use Rattle.task_word.specs.Cell.{Slot}
use Rattle.task_word.specs.Tokens.{Shows, Notifies}

-- the output, where a look has taken it out; else what the look answers, which is that there is none yet or that there won't be one
abbrev pub found_by : {T : Type 0} → Option T → Option Answer → Found T
found_by (Some output) answer = Output output
found_by None (Some answers.Pending) = Pending
found_by None _ = Closed

-- whether this gives the output
abbrev pub gives : {T : Type 0} → Found T → Bool
gives (Output output) = true
gives Closed = false
gives Pending = false
gives NoMemory = false

-- the move of a poll's first look, or of the one once its waker is registered
abbrev pub look_by : Bool → State → Moved
look_by true s = moves.poll s
look_by false s = moves.look_again s

module _ {F T W K P : Type 0} where
  -- the last step of this claim's seat, on this board, was a look that answered this
  abbrev pub Looks : Shared (Slot F T W) View K P → Option Answer → Claim → Type 0
  Looks board answer claim = (is_first : Bool) × (owed : Owed) × Shows board (look_by is_first) owed claim × (owed.answer ≡ answer)

  -- the last step of this claim's seat, on this board, was a call of the awaiter, or left that to whoever was calling or
  -- registering it
  abbrev pub CallsAwaiter : Shared (Slot F T W) View K P → Claim → Type 0
  CallsAwaiter board claim = (owed : Owed) × Notifies board owed claim

  -- what a poll of the handle that has this claim found: that there is no output yet, or that no waker could be had, only where
  -- its last step, on this board, was the look that says so; that there won't be one only where its last step there woke the
  -- awaiter
  abbrev pub FoundAt : Shared (Slot F T W) View K P → Claim → Found T → Type 0
  FoundAt board claim (Output output) = ⊤
  FoundAt board claim Closed = CallsAwaiter board claim
  FoundAt board claim Pending = Looks board (Some answers.Pending) claim
  FoundAt board claim NoMemory = Looks board None claim

-- the claim of a handle that had nothing to call; or one that shows that the awaiter was woken
abbrev pub IsTold : {F T W : Type 0} → Result (Task F T W) (OwingTask F T W) → Claim → Type 0
IsTold (Ok task) claim = claim ≡ task.claim
IsTold (Err owing) claim = CallsAwaiter owing.task.cell.now.board.shared claim

-- what a handle has found when it answers this
abbrev pub found_in : {T : Type 0} → Poll (Result T TaskError) → Found T
found_in (Ready (Ok output)) = Output output
found_in (Ready (Err errors.TaskClosed)) = Closed
found_in (Ready (Err errors.NoMemory)) = NoMemory
found_in polls.Pending = Pending

-- the same, of a handle whose closing is no error
abbrev pub found_if_any : {T : Type 0} → Poll (Result (Option T) WithoutMemory) → Found T
found_if_any (Ready (Ok (Some output))) = Output output
found_if_any (Ready (Ok None)) = Closed
found_if_any (Ready (Err error)) = NoMemory
found_if_any polls.Pending = Pending
