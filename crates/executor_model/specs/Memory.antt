-- Which calls take no memory: they ask for none, and none of them is refused.
use Rattle.std.specs.Prelude.{◌≡◌, ℕ, Bool, true, false, Option, List, ◌∷◌}
use Rattle.std.specs.List.{list_any}
use Rattle.executor_model.specs.declared.call.By.{By}
use Rattle.executor_model.specs.declared.call.Call.{Call}
use Rattle.executor_model.specs.declared.call.Call.TheVariants as call
use Rattle.executor_model.specs.declared.call.Reply.{Reply}
use Rattle.executor_model.specs.declared.call.Reply.TheVariants as reply
use Rattle.executor_model.specs.declared.op.Op.{Op}
use Rattle.executor_model.specs.declared.op.Op.TheVariants as op
use Rattle.executor_model.specs.declared.op.HandleOp.TheVariants as handle_op
use Rattle.executor_model.specs.declared.op.TableOp.TheVariants as table_op
use Rattle.executor_model.specs.declared.op.TickOp.TheVariants as tick_op
use Rattle.executor_model.specs.declared.op.WakerOp.TheVariants as waker_op
use Rattle.executor_model.specs.declared.step.Hint.{Hint}
use Rattle.executor_model.specs.declared.step.UserEnd.{UserEnd}
use Rattle.executor_model.specs.declared.step.UserEnd.TheVariants as end
use Rattle.executor_model.specs.declared.event.Answer.TheVariants as answer
use Rattle.executor_model.specs.declared.op.ListOp.{ListOp}
use Rattle.executor_model.specs.declared.op.Look.{Look}
use Rattle.executor_model.specs.declared.op.Look.TheVariants.{First}
use Rattle.executor_parts.specs.declared.mark.Mark.{Mark}
use Rattle.executor_model.specs.declared.op.ListOp.TheVariants as list_op
use Rattle.executor_model.specs.declared.op.RunOp.{RunOp}
use Rattle.executor_model.specs.declared.op.RunOp.TheVariants as run_op
use Rattle.executor_model.specs.declared.op.RunPoll.{RunPoll}
use Rattle.executor_model.specs.declared.op.Section.{Section}
use Rattle.executor_model.specs.declared.op.Section.TheVariants as section
use Rattle.executor_model.specs.declared.op.StealOp.{StealOp}
use Rattle.executor_model.specs.declared.op.UserOp.TheVariants as user_op
use Rattle.executor_model.specs.declared.op.Waker.{Waker}
use Rattle.executor_model.specs.declared.op.Sleeping.{Sleeping}
use Rattle.executor_model.specs.ActsOfRuns.{lock_write, look_own, search_common, search_own, take_turn_of_run, write}
use Rattle.executor_model.specs.Acts.{mark_in}
use Rattle.executor_model.specs.ActsOfSleepers.{look_tick, search_tick}
use Rattle.executor_model.specs.Doing.{act, steal_act}
use Rattle.executor_model.specs.Steps.{begun, react}
use Rattle.executor_model.specs.World.{World, own_of, queue_of}

-- all calls but a spawn, the making of a tick or run, a copy of a waker, and a poll of a handle, a tick or a run,
-- which copies the waker that it is given
abbrev pub takes_no_memory : Call → Bool
takes_no_memory (call.Spawn m) = false
takes_no_memory (call.Copy k) = false
takes_no_memory call.Keep = false
takes_no_memory (call.PollHandle f by) = false
takes_no_memory call.NewTick = false
takes_no_memory (call.PollTick t by) = false
takes_no_memory call.NewRun = false
takes_no_memory (call.PollRun r by) = false
takes_no_memory _ = true

abbrev pub refuses : Reply → Bool
refuses reply.Full = true
refuses reply.NoMemory = true
refuses _ = false

abbrev pub section_may_refuse : Section → Bool
section_may_refuse section.MakeRun = true
section_may_refuse (section.Register x) = true
section_may_refuse (section.Unregister r a) = refuses a

abbrev pub list_may_refuse : ListOp → Bool
list_may_refuse (list_op.LockWrite s) = section_may_refuse s
list_may_refuse (list_op.Write s) = section_may_refuse s
list_may_refuse (list_op.LockRead x) = true
list_may_refuse _ = false

abbrev pub run_may_refuse : RunOp → Bool
run_may_refuse run_op.MakeRoom = true
run_may_refuse (run_op.TakeTurn x) = true
run_may_refuse (run_op.SearchCommon x l) = true
run_may_refuse (run_op.LookOwn x at left) = true
run_may_refuse (run_op.Reschedule r a) = refuses a
run_may_refuse _ = false

-- it asks for memory or leads to what does, or it ends a call with a refusal
abbrev pub may_refuse : Op → Bool
may_refuse (op.Table (table_op.Enter m)) = true
may_refuse (op.Waker (waker_op.CopyWaker f held)) = true
may_refuse (op.Handle (handle_op.Look f waker)) = true
may_refuse (op.Handle (handle_op.CopyAwaiter f waker)) = true
may_refuse (op.Tick tick_op.MakeTick) = true
may_refuse (op.Tick (tick_op.Search s)) = true
may_refuse (op.Tick (tick_op.Look s l)) = true
may_refuse (op.Tick (tick_op.CopyWaker s)) = true
may_refuse (op.Tick (tick_op.FallAsleep s)) = true
may_refuse (op.User (user_op.PollOwn x)) = true
may_refuse (op.List o) = list_may_refuse o
may_refuse (op.Steal o) = true
may_refuse (op.Run o) = run_may_refuse o
may_refuse (op.End r held) = refuses r
may_refuse _ = false

-- nothing of this is such a thing
abbrev pub AsksForNone : List Op → Type 0
AsksForNone next = list_any may_refuse next ≡ false

-- it asks for memory in its own step
abbrev pub asks : Op → Bool
asks (op.Table (table_op.Enter m)) = true
asks (op.Waker (waker_op.CopyWaker f held)) = true
asks (op.Handle (handle_op.CopyAwaiter f waker)) = true
asks (op.Tick tick_op.MakeTick) = true
asks (op.Tick (tick_op.CopyWaker s)) = true
asks (op.List (list_op.Write section.MakeRun)) = true
asks (op.Run run_op.MakeRoom) = true
asks _ = false

-- a poll of a tick that finds a future in one of the executor's queues asks for no memory: neither its turn nor a first look
-- leads to a request, and where a look finds one nothing is left to do that may refuse
pub record FindsWithoutMemory (w : World) (p : ℕ) : Type 0 where
  pub turns : (s : Sleeping) → list_any asks (search_tick p w s).next ≡ false
  pub looks : (s : Sleeping) (m : Mark) → list_any asks (look_tick w s (First m)).next ≡ false
  pub finds : (f : ℕ) (rest : List ℕ) (s : Sleeping) (l : Look) → (queue_of w (mark_in l)).items ≡ f ∷ rest →
      AsksForNone (look_tick w s l).next

-- a poll of a run asks for no memory until its own future has answered; where that is ready nothing is left to do that
-- may refuse. Then it asks for memory only where a search ends that has found no future: neither a look at its own
-- queue and the executor's two, nor a turn, nor a steal leads to a request, nor, in a walk, a look that finds a future
pub record RunsWithoutMemory (w : World) (p : ℕ) : Type 0 where
  pub begins : (here : Option Waker) (r : ℕ) (b : By) → list_any asks (begun p w here (call.PollRun r b)).next ≡ false
  pub locks : (x : RunPoll) → list_any asks (lock_write w (section.Register x)).next ≡ false
  pub registers : (h : Hint) (x : RunPoll) → list_any asks (write h (section.Register x) w).next ≡ false
  pub ready : (x : RunPoll) → AsksForNone (react p (op.User (user_op.PollOwn x)) (end.Polled answer.Ready) w).next
  pub pending : (x : RunPoll) →
      list_any asks (react p (op.User (user_op.PollOwn x)) (end.Polled answer.Pending) w).next ≡ false
  pub own : (x : RunPoll) → list_any asks (search_own w x).next ≡ false
  pub turns : (x : RunPoll) → list_any asks (take_turn_of_run p w x).next ≡ false
  pub common : (x : RunPoll) (l : Look) → list_any asks (search_common w x l).next ≡ false
  pub steals : (o : StealOp) → list_any asks (steal_act p o w).next ≡ false
  pub looks : (f : ℕ) (rest : List ℕ) (x : RunPoll) (at left : ℕ) → own_of w x.run ≡ f ∷ rest →
      list_any asks (look_own w x at left).next ≡ false

-- such a call begins with nothing that may refuse, nothing that it does or that follows its user code leads to any,
-- and what it does is the same whether memory is refused or not
pub record NeedsNoMemory (w : World) (p : ℕ) : Type 0 where
  pub begins : (here : Option Waker) (c : Call) → takes_no_memory c ≡ true → AsksForNone (begun p w here c).next
  pub goes_on : (h : Hint) (o : Op) → may_refuse o ≡ false → AsksForNone (act p h o w).next
  pub follows : (o : Op) (end : UserEnd) → may_refuse o ≡ false → AsksForNone (react p o end w).next
  pub finds : FindsWithoutMemory w p
  pub runs : RunsWithoutMemory w p
  pub same : (h : Hint) (refused : Bool) (o : Op) → asks o ≡ false →
      act p (record h { refused = refused }) o w ≡ act p h o w
