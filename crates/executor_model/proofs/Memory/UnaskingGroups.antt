-- For refused_calls_change_nothing, wakes_and_drops_take_no_memory and want_of_memory_is_told_of.
-- Calls that take no memory, by groups of what is done.
use Rattle.std.proofs.Common.{◌≡◌, ℕ, List, [], ◌∷◌, Bool, true, false, ◌&&◌, ◌||◌, not, refl, ap}
use Rattle.std.{specs.Prelude.Option, specs.Prelude.Some, specs.Prelude.None, specs.List.list_any}
use Rattle.task_moves.specs.Moves.{is_over}
use Rattle.executor_model.proofs.Types.{Move, Waker, Task, Outside, Call, Reply, Hold, Answer, Event, Op, ClosingOp, HandleOp}
use Rattle.executor_model.proofs.Types.{ListOp, Polled, QueueOp, RunOp, RunPoll, Section, TableOp, TickOp, UserOp, WakerOp}
use Rattle.executor_model.specs.Memory.{asks, list_may_refuse, may_refuse, refuses, run_may_refuse, takes_no_memory}
use Rattle.executor_model.specs.Acts.{is_last_waker, is_told, mark_in, move_by, told_of}
use Rattle.executor_model.specs.World.{World, Done, Stage, New, Listed, Ended, log, task, log_if, awaiter_of, queue_of, run_of}
use Rattle.executor_model.specs.ActsOfRuns.{call_by_reference, look_own_by, reschedule_by, wake_own}
use Rattle.executor_model.specs.Doing.{act, list_act, run_act}
use Rattle.executor_model.specs.Memory.{AsksForNone, NeedsNoMemory, RunsWithoutMemory}
use Rattle.executor_model.specs.Steps.{begun, drop_run, future_of, kept, poll_run, react, with_future}
use Rattle.executor_model.proofs.Memory.Unasking.{none-let_go_by, both, none-again, none-append, none-call, none-carried}
use Rattle.executor_model.proofs.Memory.Unasking.{none-close, none-closing, none-drain, none-drop_next, none-end_register}
use Rattle.executor_model.proofs.Memory.Unasking.{none-leave, none-look_at_table, none-notify, none-register, none-take}
use Rattle.executor_model.proofs.Memory.RunsUntold.{Untold, untold-common, untold-finds, untold-search, untold-steal}
use Rattle.executor_model.proofs.Memory.Unasking.{none-told, none-leak_next, none-leak_out, none-wake_next}
use Rattle.executor_model.proofs.Memory.SleepersMemory.{none-sleeper, none-up, none-leave_sleepers, finds-without}
use Rattle.executor_model.proofs.{Types.Hint, Types.UserEnd, Memory.RunsUntold.untold-turn}
use Rattle.task_moves.specs.Moves as moves

-- what a run does

-- a call that isn't answered with a refusal goes on so
unrefused : (a : Reply) → refuses a ≡ false → (refuses a || false) ≡ false
unrefused a e = ap (λ (x : Bool). x || false) e

none-list : (h : Hint) (o : ListOp) (w : World) → list_may_refuse o ≡ false → AsksForNone (list_act h o w).next
none-list h (ListOp.LockWrite (Section.Unregister r a)) w e = unrefused a e
none-list h (ListOp.Write (Section.Unregister r a)) w e = unrefused a e
none-list h ListOp.UnlockWrite w e = refl
none-list h ListOp.UnlockRead w e = refl
none-list h _ w e = absurd (cc)

none-by_reference : (p : ℕ) (w : World) (a : Waker) → AsksForNone (call_by_reference p w a).next
none-by_reference p w (Task f) = none-carried (log_if (not (is_over (task w f))) w (Event.Woken p f)) f
    (moves.wake_by_reference (task w f))
none-by_reference p w (Outside y) = refl

none-wake_own : (p : ℕ) (w : World) (x : RunPoll) → AsksForNone (wake_own p w x).next
none-wake_own p w x =
    let v : World = log w (Event.WakerCalled p (Polled.Run x.run) x.poll x.waker) in
    both (call_by_reference p v x.waker).next (Op.End Reply.Pending (Hold.Run x.run) ∷ [])
    (none-by_reference p v x.waker) refl

none-reschedule : (q : List ℕ) (w : World) (r : ℕ) (a : Reply) → refuses a ≡ false →
    AsksForNone (reschedule_by q w r a).next
none-reschedule [] w r a e = unrefused a e
none-reschedule (f ∷ rest) w r a e = unrefused a e

none-run : (p : ℕ) (h : Hint) (o : RunOp) (w : World) → run_may_refuse o ≡ false → AsksForNone (run_act p h o w).next
none-run p h RunOp.ReturnRoom w e = refl
none-run p h (RunOp.WakeOwn x) w e = none-wake_own p w x
none-run p h (RunOp.Reschedule r a) w e = none-reschedule _ w r a e
none-run p h _ w e = absurd (cc)

-- one thing done

none-move : (b : Bool) (m : Move) (p : ℕ) (w : World) (f : ℕ) → AsksForNone (move_by b m p w f).next
none-move true m p w f =
    none-carried (told_of (is_last_waker m (task w f)) (is_told m (task w f)) m p w f) f (moves.after m (task w f))
none-move false m p w f = refl

none-act : (p : ℕ) (w : World) (h : Hint) (o : Op) → may_refuse o ≡ false → AsksForNone (act p h o w).next
none-act p w h (Op.Table (TableOp.Enter mark)) e = absurd (cc)
none-act p w h (Op.Queue QueueOp.TakeTurn) e = refl
none-act p w h (Op.Queue (QueueOp.Take l)) e = none-take w l (queue_of w (mark_in l)).items
none-act p w h (Op.Table TableOp.LookAtTable) e = none-look_at_table w w.table
none-act p w h (Op.Queue (QueueOp.Append f)) e = none-append _ w _ f
none-act p w h (Op.Move m f) e = none-move _ m p w f
none-act p w h (Op.Table (TableOp.LeaveTable f)) e = none-leave _ w f
none-act p w h (Op.Waker (WakerOp.CopyWaker f held)) e = absurd (cc)
none-act p w h (Op.Handle (HandleOp.Look f a)) e = absurd (cc)
none-act p w h (Op.Handle (HandleOp.CopyAwaiter f a)) e = absurd (cc)
none-act p w h (Op.Handle (HandleOp.Register f a k)) e = none-register _ w f a k
none-act p w h (Op.Handle (HandleOp.EndRegister f a k)) e = none-end_register _ w f a k
none-act p w h (Op.Handle (HandleOp.LookAgain f)) e = none-again (task w f).closed _ (task w f).completed p w f
none-act p w h (Op.Handle (HandleOp.Notify f mine)) e = none-notify _ w f mine
none-act p w h (Op.Handle (HandleOp.EndNotify f mine)) e = none-told (mine && h.same) f (awaiter_of w f)
none-act p w h (Op.Handle (HandleOp.LetGo f)) e = none-let_go_by _ w f
none-act p w h (Op.Waker (WakerOp.CallAwaiter f a k)) e = none-call p w f a k
none-act p w h (Op.Sleeper o) e = none-sleeper p o w
none-act p w h (Op.Tick TickOp.MakeTick) e = absurd (cc)
none-act p w h (Op.Tick (TickOp.Search s)) e = absurd (cc)
none-act p w h (Op.Tick (TickOp.Look s l)) e = absurd (cc)
none-act p w h (Op.Tick (TickOp.CopyWaker s)) e = absurd (cc)
none-act p w h (Op.Tick (TickOp.FallAsleep s)) e = absurd (cc)
none-act p w h (Op.Tick (TickOp.WakeUp t)) e = none-up _ w t
none-act p w h (Op.Tick (TickOp.Leave t)) e = none-leave_sleepers _ w t
none-act p w h (Op.List o) e = none-list h o w e
none-act p w h (Op.Steal o) e = absurd (cc)
none-act p w h (Op.Run o) e = none-run p h o w e
none-act p w h (Op.Closing ClosingOp.TakeOut) e = none-closing w.table w.waking
none-act p w h (Op.Closing ClosingOp.DropNext) e = none-drop_next p w w.leaving
none-act p w h (Op.Closing ClosingOp.WakeNext) e = none-wake_next p w w.waking
none-act p w h (Op.Closing (ClosingOp.Close m)) e = none-close w m
none-act p w h (Op.Closing (ClosingOp.Drain m)) e = none-drain p w m (queue_of w m).items
none-act p w h (Op.Closing ClosingOp.LeakOut) e = none-leak_out _ w
none-act p w h (Op.Closing ClosingOp.LeakNext) e = none-leak_next _ p w w.waking
none-act p w h (Op.User (UserOp.BeginDrop f)) e = refl
none-act p w h (Op.User (UserOp.PollOwn x)) e = absurd (cc)
none-act p w h _ e = refl

same-act : (p : ℕ) (w : World) (h : Hint) (refused : Bool) (o : Op) → asks o ≡ false →
    act p (record h { refused = refused }) o w ≡ act p h o w
same-act p w h refused (Op.Table (TableOp.Enter mark)) e = absurd (cc)
same-act p w h refused (Op.Waker (WakerOp.CopyWaker f held)) e = absurd (cc)
same-act p w h refused (Op.Handle (HandleOp.CopyAwaiter f a)) e = absurd (cc)
same-act p w h refused (Op.Tick TickOp.MakeTick) e = absurd (cc)
same-act p w h refused (Op.Tick (TickOp.CopyWaker s)) e = absurd (cc)
same-act p w h refused (Op.List (ListOp.Write Section.MakeRun)) e = absurd (cc)
same-act p w h refused (Op.Run RunOp.MakeRoom) e = absurd (cc)
same-act p w h refused _ e = refl

-- the beginning of a call, and what follows user code

none-with : (w : World) (f : Option ℕ) (d : ℕ → Done) → ((g : ℕ) → AsksForNone (d g).next) →
    AsksForNone (with_future w f d).next
none-with w None d n = refl
none-with w (Some f) d n = n f

none-drop_run : (x : Stage) (r : ℕ) → AsksForNone (drop_run x r)
none-drop_run New r = refl
none-drop_run Listed r = refl
none-drop_run Ended r = refl

none-begun : (p : ℕ) (w : World) (here : Option Waker) (c : Call) → takes_no_memory c ≡ true →
    AsksForNone (begun p w here c).next
none-begun p w here Call.TryTick e = refl
none-begun p w here Call.IsEmpty e = refl
none-begun p w here (Call.Wake k) e = none-with w (kept w k) _ (λ f. refl)
none-begun p w here (Call.WakeByRef k) e = none-with w (kept w k) _ (λ f. refl)
none-begun p w here (Call.DropWaker k) e = none-with w (kept w k) _ (λ f. refl)
none-begun p w here Call.WakeSelf e = none-with w (future_of here) _ (λ f. refl)
none-begun p w here (Call.DropTick t) e = refl
none-begun p w here (Call.DropRun r) e = none-drop_run (run_of w r).stage r
none-begun p w here (Call.Cancel f) e = refl
none-begun p w here (Call.Detach f) e = refl
none-begun p w here (Call.DropHandle f) e = refl
none-begun p w here Call.Leak e = refl
none-begun p w here Call.DropExecutor e = refl
none-begun p w here _ e = absurd (cc)

none-react : (p : ℕ) (w : World) (o : Op) (e : UserEnd) → may_refuse o ≡ false → AsksForNone (react p o e w).next
none-react p w (Op.User (UserOp.Poll f)) (UserEnd.Polled Answer.Pending) n = refl
none-react p w (Op.User (UserOp.Poll f)) (UserEnd.Polled Answer.Ready) n = refl
none-react p w (Op.User (UserOp.PollOwn x)) e n = absurd (cc)
none-react p w _ _ n = refl

-- polls of runs

untold-asks : Untold asks
untold-asks = record {
  exchange = refl;
  search = λ s. refl;
  up = λ who. refl;
  take_up = λ f. refl;
  retract = λ f. refl;
  steal = λ o. refl;
  turn = λ x. refl;
  common = λ x l. refl;
  look = λ x at left. refl;
  own = λ x. refl;
  lock = λ x. refl;
  unlock = refl;
}

begins-without : (t : Stage) (x : RunPoll) → list_any asks (poll_run t x) ≡ false
begins-without New x = refl
begins-without Listed x = refl
begins-without Ended x = refl

looks-without : (q : List ℕ) (w : World) (f : ℕ) (rest : List ℕ) (x : RunPoll) (at left : ℕ) → q ≡ f ∷ rest →
    list_any asks (look_own_by q w x at left).next ≡ false
looks-without [] w f rest x at left e = absurd (cc)
looks-without (g ∷ more) w f rest x at left e = untold-finds asks untold-asks g more w x at left

runs-without : (w : World) (p : ℕ) → RunsWithoutMemory w p
runs-without w p = record {
  begins = λ here r b. begins-without _ _;
  locks = λ x. refl;
  registers = λ h x. refl;
  ready = λ x. refl;
  pending = λ x. refl;
  own = untold-search asks untold-asks w;
  turns = untold-turn asks untold-asks p w;
  common = untold-common asks untold-asks w;
  steals = λ o. untold-steal asks untold-asks p o w;
  looks = λ f rest x at left e. looks-without _ w f rest x at left e;
}

pub needs-no-memory : (w : World) (p : ℕ) → NeedsNoMemory w p
needs-no-memory w p = record {
  begins = none-begun p w;
  goes_on = none-act p w;
  follows = none-react p w;
  finds = finds-without w p;
  runs = runs-without w p;
  same = same-act p w;
}
