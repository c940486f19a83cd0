-- How a call on the executor goes, step by step: futures have the names of their tasks.
use Rattle.std.specs.Prelude.{Bool, true, false, Option, Some, None, Result, Ok, Err, List, [], ◌∷◌}
use Rattle.task_moves.specs.declared.moves.owed.Move.TheVariants as move
use Rattle.async_task.specs.Awaiters.{identity_of}
use Rattle.async_task.specs.Handles.{Handle}
use Rattle.async_task.specs.declared.cell.Identity.{Identity}
use Rattle.async_task.specs.declared.waker.Awaiter.{Awaiter}
use Rattle.call_steps.specs.declared.names.Sleeping.{Sleeping}
use Rattle.call_steps.specs.declared.names.TickOrRun.{TickOrRun}
use Rattle.call_steps.specs.declared.names.TickOrRun.TheVariants as tick_or_run
use Rattle.call_steps.specs.declared.names.Waker.{Waker}
use Rattle.call_steps.specs.declared.names.Waker.TheVariants as waker
use Rattle.call_steps.specs.declared.reply.Reply.{Reply}
use Rattle.call_steps.specs.declared.reply.Reply.TheVariants as reply
use Rattle.call_steps.specs.declared.saw.Saw.{Saw}
use Rattle.call_steps.specs.declared.saw.Saw.TheVariants as saw
use Rattle.call_steps.specs.declared.step.CallStep.{CallStep}
use Rattle.call_steps.specs.declared.step.CallStep.TheVariants as step
use Rattle.call_steps.specs.declared.step.tick.SleeperStep.TheVariants as sleeper_step
use Rattle.async_executor.specs.declared.due.Handed.{Handed}
use Rattle.async_executor.specs.declared.errors.SpawnError.{SpawnError}
use Rattle.async_executor.specs.declared.errors.SpawnError.TheVariants.{Full, NoMemory}
use Rattle.async_executor.specs.declared.foreign.Foreign.{Foreign}
use Rattle.async_executor.specs.declared.marked.Marked.{Marked}
use Rattle.async_executor.specs.declared.sleeping.SleeperWaker.{SleeperWaker}
use Rattle.async_executor.specs.declared.sleeping.SleeperWaker.TheVariants.{Task, Outside}

-- whose Runnable it is
abbrev pub of_stored : {M : Type 0} → Option (Handle M) → Option Identity
of_stored None = None
of_stored (Some stored) = Some stored.identity

abbrev pub of_handed : {T W R : Type 0} → Option (Handed T W R) → Option Identity
of_handed None = None
of_handed (Some handed) = Some handed.runnable.stored.identity

module _ {W : Type 0} where
  -- the name of a sleeper's waker
  abbrev pub name_of : SleeperWaker W → Waker Identity
  name_of (Task stored) = waker.Task stored.identity
  name_of (Outside w) = waker.Outside

  abbrev pub sleeper_as : TickOrRun (Unit {0}) → SleeperWaker W → Sleeping Identity (Unit {0})
  sleeper_as who w = record { waker = name_of w; who = who }

  -- who sleeps with it: the list of sleepers has no names of ticks and runs, and doesn't know which of both it is
  abbrev pub sleeper : SleeperWaker W → Sleeping Identity (Unit {0})
  sleeper w = sleeper_as (tick_or_run.Tick tt) w

  abbrev pub sleeper_of : Option (Foreign (SleeperWaker W)) → Option (Sleeping Identity (Unit {0}))
  sleeper_of None = None
  sleeper_of (Some it) = Some (sleeper it.value)

-- the name of a waker of this task, or of one from outside
abbrev pub named : Option Identity → Waker Identity
named None = waker.Outside
named (Some f) = waker.Task f

-- the name of the waker that a poll was given
abbrev pub name_given : {F T S M W R : Type 0} → Awaiter F T S M W R → Waker Identity
name_given w = named (identity_of w)

-- what a try has still to do once it has found nothing in both queues, or the Runnable of this future
abbrev pub tried : Option Identity → List (CallStep Identity (Unit {0}))
tried None = step.End reply.No ∷ []
tried (Some f) = step.Sleeper sleeper_step.ExchangeFlag ∷ step.Move move.TakeUp f ∷ step.End reply.Yes ∷ []

-- a queue's first Runnable is of this future, or it has none
abbrev pub took : Option Identity → Saw Identity (Unit {0})
took None = saw.Nothing
took (Some f) = saw.Found f

-- what a spawn sees in the table
abbrev pub accepted_as : {F H : Type 0} → Result (Marked × H) (SpawnError F) → Saw Identity (Unit {0})
accepted_as (Ok both) = saw.Entered both.0.stored.identity
accepted_as (Err (Full future)) = saw.Full
accepted_as (Err (NoMemory future)) = saw.NoMemory

-- what a spawn answers
abbrev pub spawned : {F H : Type 0} → Result H (SpawnError F) → Reply
spawned (Ok task) = reply.Made
spawned (Err (Full future)) = reply.Full
spawned (Err (NoMemory future)) = reply.NoMemory

-- what a question for something new answers
abbrev pub made : {A E : Type 0} → Result A E → Reply
made (Ok new) = reply.Made
made (Err error) = reply.NoMemory

-- what a question answers
abbrev pub yes_or_no : Bool → Reply
yes_or_no true = reply.Yes
yes_or_no false = reply.No
