-- Which queue a step looks at, and what it sees there.
use Rattle.std.specs.Prelude.{◌≡◌, Bool, true, false, Option, Some, None, [], ◌∷◌}
use Rattle.task_moves.specs.declared.moves.owed.Move.TheVariants as move
use Rattle.executor_parts.specs.declared.mark.Mark.{Mark}
use Rattle.async_task.specs.declared.cell.Identity.{Identity}
use Rattle.call_steps.specs.Looking.{mark_in}
use Rattle.call_steps.specs.declared.names.Source.{Source}
use Rattle.call_steps.specs.declared.names.Source.TheVariants as source
use Rattle.call_steps.specs.declared.names.TickOrRun.{TickOrRun}
use Rattle.call_steps.specs.declared.names.TickOrRun.TheVariants.{Tick, Run}
use Rattle.call_steps.specs.declared.saw.Saw.{Saw}
use Rattle.call_steps.specs.declared.saw.Saw.TheVariants as saw
use Rattle.call_steps.specs.declared.saw.Searcher.{Searcher}
use Rattle.call_steps.specs.declared.step.CallStep.{CallStep}
use Rattle.call_steps.specs.declared.step.CallStep.TheVariants as step
use Rattle.call_steps.specs.declared.step.run.RunStep.TheVariants as run_step
use Rattle.call_steps.specs.declared.step.table.ClosingStep.TheVariants as closing_step
use Rattle.call_steps.specs.declared.step.table.QueueStep.TheVariants as queue_step
use Rattle.call_steps.specs.declared.step.tick.TickStep.TheVariants as tick_step
use Rattle.call_steps.specs.Todo.{below, top}
use Rattle.call_steps.specs.declared.names.Waker.{Waker}
use Rattle.call_steps.specs.declared.names.Waker.TheVariants as waker
use Rattle.async_executor.specs.declared.foreign.Foreign.{Foreign}
use Rattle.async_executor.specs.declared.sleeping.SleeperWaker.{SleeperWaker}
use Rattle.call_steps.specs.declared.reply.Reply.TheVariants as reply
use Rattle.call_steps.specs.declared.step.user.UserStep.TheVariants as user_step
use Rattle.async_executor.specs.Polling.{Todo}
use Rattle.async_executor.specs.Runs.{poll_with}
use Rattle.async_executor.specs.Steps.{name_of}

abbrev pub Next : Type 0
Next = Option (CallStep Identity (Unit {0}))

-- the executor's queue of this mark is looked at
abbrev pub LooksCommon : Mark → Next → Type 0
LooksCommon m (Some (step.Queue (queue_step.Take l))) = mark_in l ≡ m
LooksCommon m (Some (step.Tick (tick_step.Look s l))) = mark_in l ≡ m
LooksCommon m (Some (step.Run (run_step.SearchCommon x l))) = mark_in l ≡ m
LooksCommon m (Some (step.Closing (closing_step.Drain n))) = n ≡ m
LooksCommon m _ = ⊥

-- a run's own is
abbrev pub LooksOwn : Next → Type 0
LooksOwn (Some (step.Tick (tick_step.Search s))) = Unit {0}
LooksOwn (Some (step.Run (run_step.LookOwn x left))) = Unit {0}
LooksOwn (Some (step.Run (run_step.Reschedule r a))) = Unit {0}
LooksOwn _ = ⊥

abbrev pub LooksAt : Source (Unit {0}) → Next → Type 0
LooksAt (source.Common mark) next = LooksCommon mark next
LooksAt (source.Own tt) next = LooksOwn next

-- a queue's first Runnable is of this future, or it has none; as one sees it that counts, or that doesn't
abbrev pub took_by : Option Searcher → Option Identity → Saw Identity (Unit {0})
took_by by None = saw.Nothing
took_by None (Some f) = saw.Found f
took_by (Some at) (Some f) = saw.FoundBy f at

-- room is asked for, or refused
abbrev pub MakesRoom : Next → Type 0
MakesRoom (Some (step.Tick tick_step.MakeTick)) = Unit {0}
MakesRoom (Some (step.Run run_step.MakeRoom)) = Unit {0}
MakesRoom _ = ⊥

abbrev pub room_seen : Bool → Saw Identity (Unit {0})
room_seen true = saw.Something
room_seen false = saw.NoMemory

module _ {W : Type 0} where
  -- the name of a waker that goes
  abbrev pub name_of_old : Option (Foreign (SleeperWaker W)) → Option (Waker Identity)
  name_of_old None = None
  name_of_old (Some old) = Some (name_of old.value)

-- a waker of this name is to be let go next; and what is left once it was, with all that this leads to
abbrev pub LetsGo : Waker Identity → Todo → Type 0
LetsGo (waker.Task f) todo = top todo ≡ Some (step.Move move.Release f)
LetsGo waker.Outside todo = Unit {0}

abbrev pub gone : Waker Identity → Todo → Todo
gone (waker.Task f) todo = below todo
gone waker.Outside todo = todo

-- a run was made with its room in the list, or was refused
abbrev pub run_made : Bool → Todo
run_made true = step.End reply.Made ∷ []
run_made false = step.Run run_step.ReturnRoom ∷ step.End reply.NoMemory ∷ []

-- its own queue came into the list, or was refused there
abbrev pub run_listed : Waker Identity → Bool → Todo
run_listed w true = step.User (user_step.PollOwn (poll_with w)) ∷ []
run_listed w false = step.End reply.NoMemory ∷ []
