-- For some_standing_is_called.
-- What is done lets nobody wake up or leave but one that is in use.
use Rattle.std.proofs.Common.{◌≡◌, ℕ, List, [], ◌∷◌, ◌++◌, Bool, true, false, refl, arith}
use Rattle.std.specs.Prelude.{Option, Some, None, is_none}
use Rattle.executor_parts.specs.Sleepers.{waker_at, waker_of}
use Rattle.executor_laws.proofs.Types.{Event, Hint, UserEnd, Move, Call, Look, First, Second, Reply, Answer, Hold, ListOp, Op}
use Rattle.executor_laws.proofs.Types.{RunOp, RunPoll, Section, TickOrRun, SleeperOp, Sleeping, TickOp, UserOp, WakerOp, Waker}
use Rattle.executor_model.specs.ActsOfSleepers.{call_sleeper, copy_sleeper_by, wake_up_by, leave_sleepers_by, sleep_again_by}
use Rattle.executor_model.specs.ActsOfSleepers.{hand_out_by, sleep_anew_by, fall_asleep_by, sleep_listed_by, make_tick_by}
use Rattle.executor_model.specs.ActsOfSleepers.{pend_as, polled_as, look_tick_by, sleeper_goes, tell_and_return}
use Rattle.executor_model.specs.Doing.{act, list_act, run_act, search, tick_act}
use Rattle.executor_model.specs.Steps.{accepts, begun, drop_run, future_of, kept, poll_run, react, with_future}
use Rattle.executor_model.specs.World.{World, Ticker, Awake, Asleep, Left, Stage, New, Listed, Ended, Done, log}
use Rattle.executor_model.specs.{Acts.copy_by, Acts.is_copy_refused, Acts.wake, Weights.weigh}
use Rattle.executor_model.proofs.Steps.SleepersCounting.{asleep}
use Rattle.executor_laws.proofs.Wakeups.StandsRuns.{walks-lock, walks-look_own, walks-search, walks-search_common, walks-steal}
use Rattle.executor_laws.proofs.Wakeups.StandsTied.{Tied, tied-append, tied-cons, tied-nil, tied-none}
use Rattle.executor_laws.proofs.{Types.Task, Types.Outside, Types.Polled, Wakeups.StandsRuns.walks-turn, Wakeups.Beside.is_sits}
use Rattle.executor_laws.proofs.{Wakeups.Beside.beside-act, Wakeups.Beside.beside-move, Wakeups.StandsGoing.beside-reference}
use Rattle.executor_laws.proofs.{Wakeups.Stands.waking_up_of, Wakeups.StandsAsleep.nothing-goes}
use Rattle.executor_laws.proofs.{Wakeups.StandsNothing.nothing-of, Wakeups.StandsOwn.held-other}
use Rattle.executor_model.specs.ActsOfRuns as runs

-- who has found something, and sleeps, wakes up before it is told
tied-found : (look : Look) (x : Ticker) (t : TickOrRun) (w : World) (q : List ℕ) (s : Sleeping) → Tied t (look_tick_by x w look q s).next
tied-found (First mark) x t w [] s = tied-none t _ refl
tied-found (Second mark) x t w [] s = tied-none t _ refl
tied-found look Awake t w (f ∷ rest) s = tied-none t _ refl
tied-found look Left t w (f ∷ rest) s = tied-none t _ refl
tied-found look (Asleep n) t w (f ∷ rest) s =
    tied-cons t (Op.Tick (TickOp.WakeUp s.who)) _ (λ k. omega (arith, k, held-other t s.who)) (tied-none t _ refl)

tied-search : (who t : TickOrRun) (p k : ℕ) (a : Waker) (w : World) → Tied t (search p w (asleep a who k)).next
tied-search (TickOrRun.Tick u) t p k a w = tied-none t _ refl
tied-search (TickOrRun.Run q) t p k a w =
    ((walks-search w (record { run = q; waker = a; poll = k })).stage t).tied

tied-goes : (t : TickOrRun) (o : Option Sleeping) (ys : List Op) → weigh (waking_up_of t) ys ≡ 0 →
    Tied t (sleeper_goes o ++ ys)
tied-goes t o ys z = tied-append t (sleeper_goes o) ys (tied-none t (sleeper_goes o) (nothing-goes t o).waking_up)
    (tied-none t ys z)

tied-gone : (t : TickOrRun) (o : Option Sleeping) → Tied t (sleeper_goes o)
tied-gone t o = tied-none t (sleeper_goes o) (nothing-goes t o).waking_up

tied-copy : (b : Bool) (t : TickOrRun) (w : World) (s : Sleeping) → Tied t (copy_sleeper_by b w s).next
tied-copy true t w s = tied-none t _ refl
tied-copy false t w s = tied-none t _ refl

tied-anew : (b : Bool) (t : TickOrRun) (w : World) (s : Sleeping) → Tied t (sleep_anew_by b w s).next
tied-anew true t w s = tied-none t _ refl
tied-anew false t w s = tied-none t _ refl

tied-listed : (b : Bool) (t : TickOrRun) (w : World) (n : ℕ) (s : Sleeping) → Tied t (sleep_listed_by b w n s).next
tied-listed true t w n s = tied-none t _ refl
tied-listed false t w n s = tied-none t _ refl

tied-again : (o : Option ℕ) (t : TickOrRun) (w : World) (n : ℕ) (s : Sleeping) → Tied t (sleep_again_by o w n s).next
tied-again None t w n s = tied-listed _ t w n s
tied-again (Some at) t w n s = tied-goes t (waker_at (Some at) w.sleepers.wakers) (pend_as s.who) refl

tied-sleep : (x : Ticker) (t : TickOrRun) (w : World) (s : Sleeping) → Tied t (fall_asleep_by x w s).next
tied-sleep Awake t w s = tied-anew _ t w s
tied-sleep (Asleep n) t w s = tied-again _ t w n s
tied-sleep Left t w s = tied-none t _ refl

tied-up : (x : Ticker) (t : TickOrRun) (w : World) (u : TickOrRun) → Tied t (wake_up_by x w u).next
tied-up Awake t w u = tied-none t _ refl
tied-up (Asleep n) t w u = tied-gone t (waker_of n w.sleepers.wakers)
tied-up Left t w u = tied-none t _ refl

untold : (t : TickOrRun) (b : Bool) → weigh (waking_up_of t) (tell_and_return b) ≡ 0
untold t true = refl
untold t false = refl

tied-leave : (x : Ticker) (t : TickOrRun) (w : World) (u : TickOrRun) → Tied t (leave_sleepers_by x w u).next
tied-leave Awake t w u = tied-none t _ refl
tied-leave (Asleep n) t w u = let o : Option Sleeping = waker_of n w.sleepers.wakers in
    tied-goes t o (tell_and_return (is_none o)) (untold t (is_none o))
tied-leave Left t w u = tied-none t _ refl

tied-make : (b : Bool) (t : TickOrRun) (w : World) → Tied t (make_tick_by b w).next
tied-make true t w = tied-none t _ refl
tied-make false t w = tied-none t _ refl

tied-tick : (t : TickOrRun) (p : ℕ) (h : Hint) (o : TickOp) (w : World) → Tied t (tick_act p h o w).next
tied-tick t p h TickOp.MakeTick w = tied-make h.refused t w
tied-tick t p h (TickOp.Search s) w = tied-search s.who t p s.poll s.waker w
tied-tick t p h (TickOp.Look s look) w = tied-found look _ t w _ s
tied-tick t p h (TickOp.CopyWaker s) w = tied-copy (is_copy_refused h w s.waker) t w s
tied-tick t p h (TickOp.FallAsleep s) w = tied-sleep _ t w s
tied-tick t p h (TickOp.WakeUp u) w = tied-up _ t w u
tied-tick t p h (TickOp.Leave u) w = tied-leave _ t w u

tied-hand_out : (b : Bool) (t : TickOrRun) (o : Option Sleeping) (w : World) → Tied t (hand_out_by b o w).next
tied-hand_out true t None w = tied-none t _ refl
tied-hand_out true t (Some s) w = tied-none t _ refl
tied-hand_out false t o w = tied-none t _ refl

tied-called : (t : TickOrRun) (p : ℕ) (u : TickOrRun) (k : ℕ) (a : Waker) (w : World) →
    Tied t (call_sleeper p w (asleep a u k)).next
tied-called t p u k (Task g) w = let v : World = log w (Event.WakerCalled p (polled_as u) k (Task g)) in
    tied-none t _ (nothing-of t (wake p v g).next (beside-move true Move.Wake p v v g (λ n. refl)).none).waking_up
tied-called t p u k (Outside x) w = tied-none t _ refl

tied-kept : (b : Bool) (t : TickOrRun) (w : World) (f : ℕ) (held : Hold) → Tied t (copy_by b w f held).next
tied-kept true t w f held = tied-none t _ refl
tied-kept false t w f held = tied-none t _ refl

-- the list of queues

tied-made : (b : Bool) (t : TickOrRun) (w : World) → Tied t (runs.make_run_by b w).next
tied-made true t w = tied-none t _ refl
tied-made false t w = tied-none t _ refl

tied-list : (t : TickOrRun) (h : Hint) (o : ListOp) (w : World) → Tied t (list_act h o w).next
tied-list t h (ListOp.Write Section.MakeRun) w = tied-made h.refused t w
tied-list t h (ListOp.LockRead x) w = ((walks-lock h w x).stage t).tied
tied-list t h _ w = tied-none t _ refl

-- a run leaves before its call ends

tied-room : (b : Bool) (t : TickOrRun) (w : World) → Tied t (runs.make_room_by b w).next
tied-room true t w = tied-none t _ refl
tied-room false t w = tied-none t _ refl

tied-left : (t : TickOrRun) (q : ℕ) (a : Reply) →
    Tied t (Op.Tick (TickOp.Leave (TickOrRun.Run q)) ∷ Op.End a (Hold.Run q) ∷ [])
tied-left t q a =
    tied-cons t (Op.Tick (TickOp.Leave (TickOrRun.Run q))) (Op.End a (Hold.Run q) ∷ []) (λ k. omega (arith, k))
    (tied-none t (Op.End a (Hold.Run q) ∷ []) refl)

tied-scheduled : (ys : List ℕ) (t : TickOrRun) (w : World) (q : ℕ) (a : Reply) → Tied t (runs.reschedule_by ys w q a).next
tied-scheduled [] t w q a = tied-left t q a
tied-scheduled (f ∷ rest) t w q a = tied-none t _ refl

tied-wake : (t : TickOrRun) (p : ℕ) (w : World) (x : RunPoll) → Tied t (runs.wake_own p w x).next
tied-wake t p w x = let v : World = log w (Event.WakerCalled p (Polled.Run x.run) x.poll x.waker) in
    let ops : List Op = (runs.call_by_reference p v x.waker).next in
    tied-append t ops (Op.End Reply.Pending (Hold.Run x.run) ∷ [])
    (tied-none t ops (nothing-of t ops (beside-reference p v x.waker).none).waking_up) (tied-none t _ refl)

tied-run : (t : TickOrRun) (p : ℕ) (h : Hint) (o : RunOp) (w : World) → Tied t (run_act p h o w).next
tied-run t p h RunOp.MakeRoom w = tied-room h.refused t w
tied-run t p h RunOp.ReturnRoom w = tied-none t _ refl
tied-run t p h (RunOp.TakeTurn x) w = ((walks-turn p w x).stage t).tied
tied-run t p h (RunOp.SearchCommon x look) w = ((walks-search_common w x look).stage t).tied
tied-run t p h (RunOp.LookOwn x at left) w = ((walks-look_own w x at left).stage t).tied
tied-run t p h (RunOp.WakeOwn x) w = tied-wake t p w x
tied-run t p h (RunOp.Reschedule q a) w = tied-scheduled _ t w q a

tied-beside : (t : TickOrRun) (p : ℕ) (h : Hint) (o : Op) (w : World) → is_sits o ≡ false → Tied t (act p h o w).next
tied-beside t p h o w n = tied-none t _ (nothing-of t (act p h o w).next (beside-act p h o w n).none).waking_up

tied-by : (b : Bool) (t : TickOrRun) (p : ℕ) (h : Hint) (o : Op) (w : World) → is_sits o ≡ b → Tied t (act p h o w).next
tied-by false t p h o w n = tied-beside t p h o w n
tied-by true t p h (Op.User (UserOp.PollOwn x)) w n = tied-none t _ refl
tied-by true t p h (Op.Tick o) w n = tied-tick t p h o w
tied-by true t p h (Op.Sleeper SleeperOp.HandOut) w n = tied-hand_out _ t _ w
tied-by true t p h (Op.Sleeper (SleeperOp.CallSleeper s)) w n = tied-called t p s.who s.poll s.waker w
tied-by true t p h (Op.Waker (WakerOp.CopyWaker f held)) w n = tied-kept _ t w f held
tied-by true t p h (Op.List o) w n = tied-list t h o w
tied-by true t p h (Op.Steal o) w n = ((walks-steal p o w).stage t).tied
tied-by true t p h (Op.Run o) w n = tied-run t p h o w
tied-by true t p h (Op.End a held) w n = tied-none t _ refl
tied-by true t p h _ w n = absurd (cc)

pub tied-act : (t : TickOrRun) (p : ℕ) (h : Hint) (o : Op) (w : World) → Tied t (act p h o w).next
tied-act t p h o w = tied-by (is_sits o) t p h o w refl

-- the end of user code
pub tied-react : (t : TickOrRun) (p : ℕ) (o : Op) (u : UserEnd) (w : World) → accepts o u ≡ true →
    Tied t (react p o u w).next
tied-react t p (Op.User (UserOp.PollOwn x)) (UserEnd.Polled Answer.Pending) w a = tied-none t _ refl
tied-react t p (Op.User (UserOp.PollOwn x)) (UserEnd.Polled Answer.Ready) w a = tied-none t _ refl
tied-react t p (Op.User (UserOp.Poll f)) (UserEnd.Polled Answer.Pending) w a = tied-none t _ refl
tied-react t p (Op.User (UserOp.Poll f)) (UserEnd.Polled Answer.Ready) w a = tied-none t _ refl
tied-react t p (Op.User (UserOp.Drop f)) UserEnd.Done w a = tied-none t _ refl
tied-react t p (Op.User (UserOp.DropOutput f)) UserEnd.Done w a = tied-none t _ refl
tied-react t p (Op.User (UserOp.CallOutside x)) UserEnd.Done w a = tied-none t _ refl
tied-react t p (Op.User (UserOp.DropOwn q)) UserEnd.Done w a = tied-none t _ refl
tied-react t p _ _ w a = absurd (cc)

-- the beginning of a call

tied-with : (t : TickOrRun) (w : World) (x : Option ℕ) (d : ℕ → Done) → ((f : ℕ) → Tied t (d f).next) →
    Tied t (with_future w x d).next
tied-with t w None d k = tied-nil t
tied-with t w (Some f) d k = k f

tied-poll : (s : Stage) (t : TickOrRun) (x : RunPoll) → Tied t (poll_run s x)
tied-poll New t x = tied-none t _ refl
tied-poll Listed t x = tied-none t _ refl
tied-poll Ended t x = tied-none t _ refl

tied-drop : (s : Stage) (t : TickOrRun) (q : ℕ) → Tied t (drop_run s q)
tied-drop New t q = tied-none t _ refl
tied-drop Listed t q = tied-none t _ refl
tied-drop Ended t q = tied-left t q Reply.Done

pub tied-begun : (t : TickOrRun) (p : ℕ) (w : World) (here : Option Waker) (c : Call) →
    Tied t (begun p (log w (Event.CallBegun p c)) here c).next
tied-begun t p w here (Call.Wake n) = tied-with t _ (kept w n) _ (λ f. tied-none t _ refl)
tied-begun t p w here (Call.WakeByRef n) = tied-with t _ (kept w n) _ (λ f. tied-none t _ refl)
tied-begun t p w here (Call.Copy n) = tied-with t _ (kept w n) _ (λ f. tied-none t _ refl)
tied-begun t p w here (Call.DropWaker n) = tied-with t _ (kept w n) _ (λ f. tied-none t _ refl)
tied-begun t p w here Call.Keep = tied-with t _ (future_of here) _ (λ f. tied-none t _ refl)
tied-begun t p w here Call.WakeSelf = tied-with t _ (future_of here) _ (λ f. tied-none t _ refl)
tied-begun t p w here (Call.DropTick u) =
    tied-cons t (Op.Tick (TickOp.Leave (TickOrRun.Tick u))) (Op.End Reply.Done (Hold.Tick u) ∷ []) (λ k. omega
    (arith, k))
    (tied-none t (Op.End Reply.Done (Hold.Tick u) ∷ []) refl)
tied-begun t p w here (Call.PollRun q b) = tied-poll _ t _
tied-begun t p w here (Call.DropRun q) = tied-drop _ t q
tied-begun t p w here _ = tied-none t _ refl
