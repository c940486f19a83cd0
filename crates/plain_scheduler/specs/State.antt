-- The plain scheduler's state: one list of due futures, the tasks by number, and who lies. `T` is the type of outputs, `A` that of
-- wakers.
use Rattle.std.specs.Prelude.{ℕ, Bool, List, Option}
use Rattle.executor_parts.specs.declared.mark.Mark.{Mark}
use Rattle.task_moves.specs.AbstractTask.{AbstractTask}

-- a due future, and the run that keeps it, if one does
pub record Due : Type 0 where
  pub future : ℕ
  pub mark : Mark
  pub keeper : Option ℕ

-- an accepted future: its task, and whether the future is dropped
pub record Future (T A : Type 0) : Type 0 where
  pub task : AbstractTask T A
  pub mark : Mark
  pub is_dropped : Bool

pub data Who : Type 0 where
  ATick : ℕ → Who
  ARun : ℕ → Who

-- a tick or run that lies, with its waker until that is called
pub record Lying (A : Type 0) : Type 0 where
  pub who : Who
  pub waker : Option A

-- how many futures a run has taken since it last let others go first, and whether its own future is over
pub record Running : Type 0 where
  pub taken : ℕ
  pub is_over : Bool

-- in which call a future is taken: a tick's and a run's poll have a waker
pub data Taker (A : Type 0) : Type 0 where
  Try : Taker A
  Tick : ℕ → A → Taker A
  Run : ℕ → A → Taker A

-- why a future is dropped: its task is closed, or it gave its output
pub data End (T : Type 0) : Type 0 where
  Closed : End T
  Gave : T → End T

pub data Answer (T : Type 0) : Type 0 where
  Made : Answer T
  Full : Answer T
  NoMemory : Answer T
  Yes : Answer T
  No : Answer T
  Pending : Answer T
  Ready : Answer T
  Gives : T → Answer T
  Cancelled : Answer T
  Finished : Answer T
  Done : Answer T

-- a user's code in which a call stands: a poll, or a drop and what follows it
pub data Code (T A : Type 0) : Type 0 where
  Poll : ℕ → Taker A → Code T A
  Drop : ℕ → End T → Taker A → Code T A
  -- of an output: who awaits it is called, and the taker goes on, if there is one
  Lose : Option A → Option (Taker A) → Code T A
  -- of a run's own future
  PollOwn : ℕ → A → Code T A
  DropOwn : ℕ → Answer T → Code T A
  -- of the next future as the executor is dropped: those that follow, and all of them
  Close : List ℕ → List ℕ → Code T A

-- what is seen
pub data Event (T A : Type 0) : Type 0 where
  Polls : ℕ → Event T A
  Drops : ℕ → Event T A
  Loses : T → Event T A
  Calls : A → Event T A
  Answers : Answer T → Event T A

-- whether memory is refused: not; before a tick or run lies; once it lies
pub data Refusal : Type 0 where
  Granted : Refusal
  AtOnce : Refusal
  Later : Refusal

-- what is free: at which mark is looked first; of which marks a run keeps the next ones; from which run another takes, and how
-- many more it moves; who is told. And what memory refuses
pub record Choice : Type 0 where
  pub first : Mark
  pub keeps : List Mark
  pub robs : ℕ
  pub moves : ℕ
  pub tells : ℕ
  pub refusal : Refusal

pub record Plain (T A : Type 0) : Type 0 where
  pub limit : ℕ
  pub is_static : Bool
  pub futures : List (Future T A)
  pub due : List Due
  pub lying : List (Lying A)
  pub runs : List Running
  -- the calls in progress, the innermost first
  pub inside : List (Code T A)
  pub events : List (Event T A)
