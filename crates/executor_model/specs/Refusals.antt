-- What a refused call changes, and where want of memory is answered.
use Rattle.std.specs.Prelude.{◌≡◌, ◌⊎◌, ℕ, ◌≤◌, Bool, true, false, not, Option}
use Rattle.std.specs.List.{list_any}
use Rattle.task_moves.specs.Moves.{most_references}
use Rattle.executor_model.specs.declared.call.By.{By}
use Rattle.executor_model.specs.declared.call.Call.{Call}
use Rattle.executor_model.specs.declared.call.Call.TheVariants as call
use Rattle.executor_model.specs.declared.call.Reply.{Reply}
use Rattle.executor_model.specs.declared.call.Reply.TheVariants as reply
use Rattle.executor_model.specs.declared.event.Event.TheVariants as event
use Rattle.executor_model.specs.declared.op.Sleeping.{Sleeping}
use Rattle.executor_model.specs.declared.op.Op.{Op}
use Rattle.executor_model.specs.declared.op.Op.TheVariants as op
use Rattle.executor_model.specs.declared.op.HandleOp.TheVariants as handle_op
use Rattle.executor_model.specs.declared.op.TickOp.TheVariants as tick_op
use Rattle.executor_model.specs.declared.op.WakerOp.TheVariants as waker_op
use Rattle.executor_model.specs.declared.op.ListOp.TheVariants as list_op
use Rattle.executor_model.specs.declared.op.RunOp.TheVariants as run_op
use Rattle.executor_model.specs.declared.op.Section.TheVariants as section
use Rattle.executor_model.specs.declared.op.TickOrRun.{TickOrRun}
use Rattle.executor_model.specs.declared.op.TickOrRun.TheVariants as tick_or_run
use Rattle.executor_model.specs.declared.op.UserOp.TheVariants as user_op
use Rattle.executor_model.specs.declared.op.Waker.{Waker}
use Rattle.executor_model.specs.declared.op.Waker.TheVariants.{Task, Outside}
use Rattle.executor_model.specs.declared.step.Hint.{Hint}
use Rattle.executor_model.specs.declared.step.UserEnd.{UserEnd}
use Rattle.executor_model.specs.Acts.{turned}
use Rattle.executor_model.specs.ActsOfRuns.{make_room_by, return_room, write}
use Rattle.executor_model.specs.ActsOfSleepers.{copy_sleeper, fall_asleep}
use Rattle.executor_model.specs.Doing.{act}
use Rattle.executor_model.specs.Memory.{may_refuse, takes_no_memory}
use Rattle.executor_model.specs.Steps.{begun, react}
use Rattle.executor_model.specs.World.{World, log, task}

abbrev pub is_no_memory : Reply → Bool
is_no_memory reply.NoMemory = true
is_no_memory _ = false

-- it ends a call for want of memory, or leads to such an end
abbrev pub ends_for_want : Op → Bool
ends_for_want (op.End r held) = is_no_memory r
ends_for_want (op.List (list_op.LockWrite (section.Unregister r a))) = is_no_memory a
ends_for_want (op.List (list_op.Write (section.Unregister r a))) = is_no_memory a
ends_for_want (op.Run (run_op.Reschedule r a)) = is_no_memory a
ends_for_want _ = false

-- a tick or run is polled
abbrev pub is_search : Call → Bool
is_search (call.PollTick t by) = true
is_search (call.PollRun r by) = true
is_search _ = false

abbrev pub is_run_poll : TickOrRun → Bool
is_run_poll (tick_or_run.Tick t) = false
is_run_poll (tick_or_run.Run r) = true

-- it is a part of a poll of a run, or of a run's making
abbrev pub is_of_run : Op → Bool
is_of_run (op.Tick (tick_op.Search s)) = is_run_poll s.who
is_of_run (op.User (user_op.PollOwn x)) = true
is_of_run (op.List o) = true
is_of_run (op.Steal o) = true
is_of_run (op.Run o) = true
is_of_run _ = false

-- a tick takes a turn
abbrev pub takes_turn : Op → Bool
takes_turn (op.Tick (tick_op.Search s)) = not (is_run_poll s.who)
takes_turn _ = false

-- a tick or run copies its waker, or falls asleep with the copy
abbrev pub falls_asleep : Op → Bool
falls_asleep (op.Tick (tick_op.CopyWaker s)) = true
falls_asleep (op.Tick (tick_op.FallAsleep s)) = true
falls_asleep _ = false

-- a call that may be refused changes nothing as it begins, and nothing as long as it may still be refused or where it
-- is: what follows asks for memory, or ends the call with a refusal. A poll of a tick or run is told of as it begins, and
-- each search of a tick takes a turn, which is told of; a copy of its waker that is refused changes nothing; and where it
-- fell asleep, that is kept, which changes the sleepers, their flag and where it is alone. A poll of a run keeps what
-- it did before. The making of a run that is refused makes nothing, and gives the room back that it had
pub record RefusedChangesNothing (w : World) (p : ℕ) : Type 0 where
  pub begins : (here : Option Waker) (c : Call) → takes_no_memory c ≡ false → is_search c ≡ false →
      (begun p w here c).world ≡ w
  pub polls : (here : Option Waker) (t : ℕ) (b : By) →
      (begun p w here (call.PollTick t b)).world ≡ log w (event.TickPolled p t)
  pub runs : (here : Option Waker) (r : ℕ) (b : By) →
      (begun p w here (call.PollRun r b)).world ≡ log w (event.RunPolled p r)
  pub goes_on : (h : Hint) (o : Op) → list_any may_refuse (act p h o w).next ≡ true → falls_asleep o ≡ false →
      is_of_run o ≡ false → takes_turn o ≡ false → (act p h o w).world ≡ w
  pub turns : (h : Hint) (o : Op) → takes_turn o ≡ true → (act p h o w).world ≡ turned p w
  pub copies : (h : Hint) (s : Sleeping) → list_any ends_for_want (copy_sleeper h w s).next ≡ true →
      (copy_sleeper h w s).world ≡ w
  pub sleeps : (s : Sleeping) → (fall_asleep w s).world ≡ record w {
    ticks = (fall_asleep w s).world.ticks;
    runs = (fall_asleep w s).world.runs;
    sleepers = (fall_asleep w s).world.sleepers;
    notified = (fall_asleep w s).world.notified;
  }
  pub makes : (h : Hint) → list_any ends_for_want (make_room_by h.refused w).next ≡ true →
      (make_room_by h.refused w).world ≡ w
  pub made : (h : Hint) → list_any ends_for_want (write h section.MakeRun w).next ≡ true →
      (write h section.MakeRun w).world ≡ w
  pub returns : w.sleepers.count ≤ w.sleepers.rooms → (return_room (make_room_by false w).world).world ≡ w

-- the waker is one of a task that already has 2^40 references
abbrev pub IsFull : Waker → World → Type 0
IsFull (Task g) w = most_references ≤ (task w g).references
IsFull (Outside x) w = true ≡ false

-- it copies the waker of a task that already has 2^40 references
abbrev pub CopiesOneTooMany : Op → World → Type 0
CopiesOneTooMany (op.Waker (waker_op.CopyWaker f held)) w = most_references ≤ (task w f).references
CopiesOneTooMany (op.Handle (handle_op.CopyAwaiter f (Task g))) w = most_references ≤ (task w g).references
CopiesOneTooMany (op.Tick (tick_op.CopyWaker s)) w = IsFull s.waker w
CopiesOneTooMany _ w = true ≡ false

-- what is done leads to a call's end for want of memory only where the step's hint says so, or where one reference too
-- many would be made, or where it is a part of such an end itself; no call begins with such an end, and none follows
-- user code
pub record IsWantToldOf (w : World) (p : ℕ) : Type 0 where
  pub begins : (here : Option Waker) (c : Call) → list_any ends_for_want (begun p w here c).next ≡ false
  pub goes_on : (h : Hint) (o : Op) → ends_for_want o ≡ false → list_any ends_for_want (act p h o w).next ≡ true →
      (h.refused ≡ true) ⊎ CopiesOneTooMany o w
  pub follows : (o : Op) (end : UserEnd) → list_any ends_for_want (react p o end w).next ≡ false
