-- What calls on an executor of one owner hand out, answer and leave to be done, as the steps have it.
use Rattle.std.specs.Prelude.{◌≡◌, ℕ, List, [], ◌∷◌, Option, Some, None}
use Rattle.executor_parts.specs.declared.places.EntryPlace.{EntryPlace}
use Rattle.task_moves.specs.declared.local_task.answers.Start.{Start}
use Rattle.task_moves.specs.declared.local_task.answers.Start.TheVariants.{Poll, Drop}
use Rattle.task_moves.specs.declared.moves.owed.Move.TheVariants as move
use Rattle.call_steps.specs.declared.saw.Saw.{Saw}
use Rattle.call_steps.specs.declared.step.CallStep.TheVariants as step
use Rattle.call_steps.specs.declared.step.table.TableStep.TheVariants as table_step
use Rattle.call_steps.specs.declared.step.user.UserStep.TheVariants as user_step
use Rattle.call_steps.specs.Todo.{following}
use Rattle.call_steps.specs.declared.reply.Reply.{Reply}
use Rattle.solo.specs.declared.names.Task.{Task}
use Rattle.solo.specs.declared.owed.Found.{Found}
use Rattle.solo.specs.declared.owed.Found.TheVariants.{Poll as Polls, Drop as Drops, Nothing}
use Rattle.solo.specs.declared.owed.Lent.{Lent}
use Rattle.solo.specs.declared.owed.Owed.{Owed}
use Rattle.solo.specs.declared.ticks.Dropped.{Dropped}
use Rattle.solo.specs.declared.owed.Told.{Told}
use Rattle.solo.specs.declared.solo.Solo.{Solo}
use Rattle.solo.specs.Cells.{asked}
use Rattle.solo.specs.Cells as cells
use Rattle.solo.specs.Turns as turns
use Rattle.solo_laws.specs.Going.{Going, Out, Step, quiet, calm}
use Rattle.solo_laws.specs.Goes.{goes}

-- deeper goes no call but a steal and a walk
abbrev pub deep : ℕ
deep = 20

-- the drop of a future is left, and behind it the entry goes
abbrev pub to_drop : Task → List Step → List Step
to_drop task more = step.User (user_step.Drop task) ∷ step.Table (table_step.LeaveTable task) ∷ more

-- what is left behind a task's turn that has begun
abbrev pub to_run : Task → Option (Start EntryPlace) → List Step → List Step
to_run task (Some (Poll place)) more = step.User (user_step.Poll task) ∷ more
to_run task (Some (Drop place)) more = to_drop task (step.Move move.SettleClosed task ∷ more)
to_run task None more = []

abbrev pub reply_if : Option (Start EntryPlace) → Reply → Option Reply → Option Reply
reply_if (Some start) reply before = before
reply_if None reply before = Some reply

-- the poll or the drop of a future with which what is left begins, and that of one that is handed out for it
abbrev pub first_use : List Step → Option Step
first_use (step.User (user_step.Poll task) ∷ more) = Some (step.User (user_step.Poll task))
first_use (step.User (user_step.Drop task) ∷ more) = Some (step.User (user_step.Drop task))
first_use _ = None

abbrev pub use_of : {F : Type 0} → Found F → Option Step
use_of (Polls lent future) = Some (step.User (user_step.Poll lent.task))
use_of (Drops lent future) = Some (step.User (user_step.Drop lent.task))
use_of _ = None

-- a future that is dropped before the rest, or with nothing more to do
abbrev pub drop_with : {F : Type 0} → Option Lent → Option F → Found F
drop_with (Some lent) (Some future) = Drops lent future
drop_with _ _ = Nothing

abbrev pub future_with : {F : Type 0} → Option Lent → Option F → Option F
future_with (Some lent) future = None
future_with None future = future

module _ {F T X : Type 0} where
  -- what the queueing of a task hands out
  abbrev pub telling : Told X → Out F T X
  telling told = record quiet { sleeper = told.sleeper; returned = told.returned }

  abbrev pub owing : Owed F T X → Out F T X
  owing owed = record quiet {
    found = drop_with owed.rest owed.future;
    future = future_with owed.rest owed.future;
    output = owed.output;
    awaiter = owed.awaiter;
    sleeper = owed.sleeper;
    old = owed.old;
    returned = owed.returned;
  }

  -- a call leaves this, hands this out and answers so, with nothing left in hand or to do
  abbrev pub ends : Solo F T X → Reply → Out F T X → Going F T X
  ends s reply out = record (calm s) { out = record out { reply = Some reply } }

  abbrev pub start_of : Task → Solo F T X → Option (Start EntryPlace)
  start_of task s = asked cells.start_answer None task s.cells

  -- the turn of a task begins, and this answer is left with the rest
  abbrev pub runs : Task → Reply → Going F T X → Going F T X
  runs task reply g = record g {
    solo = turns.begun task g.solo;
    out = record g.out {
      found = turns.begin_answer task g.solo;
      reply = reply_if (start_of task g.solo) reply g.out.reply;
    };
    left = to_run task (start_of task g.solo) (step.End reply ∷ []);
  }

  -- what is left begins with the poll or the drop of a future exactly where one is handed out for it
  abbrev pub IsLent : Going F T X → Type 0
  IsLent g = first_use g.left ≡ use_of g.out.found

  -- what a sleeper's waker that goes hands out
  abbrev pub dropping : Dropped X → Out F T X
  dropping dropped = record quiet { sleeper = dropped.told.sleeper; gone = dropped.old; returned = dropped.told.returned }

  -- a call goes on behind what its owner was left to do, for what that saw
  abbrev pub resumes : Saw Task ℕ → List Step → Going F T X → Going F T X
  resumes seen left g = goes deep (following seen left) g

  abbrev pub handing : Option (Owed F T X) → Out F T X
  handing (Some owed) = owing owed
  handing None = quiet
