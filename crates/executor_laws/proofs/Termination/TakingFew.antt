-- For calls_end and lone_calls_end.
-- No run takes 200 futures without letting others go first.
use Rattle.std.proofs.Common.{◌≡◌, ℕ, zero, suc, ◌+◌, ◌<◌, List, [], ◌∷◌, ◌++◌, length, set, get_or, Bool, true, false, eqb}
use Rattle.std.proofs.Common.{refl, ap, sym, arith}
use Rattle.std.proofs.lemmas.Bool.Decides.{nat_tests}
use Rattle.std.specs.Prelude.{Option, Some, None, reverse}
use Rattle.executor_parts.specs.Sleepers.{next_number}
use Rattle.executor_laws.proofs.Types.{Look, Plain, Urgent, Mark, First, Second, Move, Call, Reply, Answer, Event, Kind}
use Rattle.executor_laws.proofs.Types.{ClosingOp, ListOp, Op, Polled, QueueOp, RunOp, RunPoll, Section, TickOrRun, SleeperOp}
use Rattle.executor_laws.proofs.Types.{Sleeping, Source, Common, Own, Steal, StealOp, Then, TickOp, UserOp, Waker, Task}
use Rattle.executor_model.specs.World.{World, Ticker, Awake, Asleep, Left, Stage, New, Listed, Ended, Run, Done, log, no_run}
use Rattle.executor_model.specs.Doing.{act, list_act, run_act, search_by_who, steal_act, tick_act}
use Rattle.executor_model.specs.Steps.{Machine, begun, future_of, kept, mine, react, run, stack, start, top, with_future}
use Rattle.executor_model.specs.{World.new_run, World.run_of, World.runs_with, World.put_own, World.put_run, Good.Good}
use Rattle.executor_model.proofs.Steps.Lift.{good-start, unsettled, no_hint}
use Rattle.executor_model.proofs.OwnQueues.RunsAside.{Rest, frame-act, is_run}
use Rattle.executor_model.proofs.Steps.Ways.{Way, acted, reacted, called, along}
use Rattle.executor_laws.proofs.{Types.Outside, Types.Hint, Types.Step, Types.UserEnd, Termination.SpendingRuns.TakesFew}
use Rattle.executor_model.specs.Acts as acts
use Rattle.executor_model.specs.ActsOfSleepers as of_sleepers
use Rattle.executor_model.specs.ActsOfRuns as runs

abbrev pub RunsStay : World → World → Type 0
RunsStay w v = v.runs ≡ w.runs

-- what speaks of no run leaves the runs as they are

runs-take : (look : Look) (q : List ℕ) (w : World) → RunsStay w (acts.take_by w look q).world
runs-take (First mark) [] w = refl
runs-take (Second mark) [] w = refl
runs-take look (f ∷ rest) w = refl

runs-append : (b : Bool) (w : World) (mark : Mark) (f : ℕ) → RunsStay w (acts.append_by b w mark f).world
runs-append true w mark f = refl
runs-append false w mark f = refl

runs-exchange : (b : Bool) (w : World) → RunsStay w (of_sleepers.exchange_by b w).world
runs-exchange true w = refl
runs-exchange false w = refl

runs-hand_out : (b : Bool) (o : Option Sleeping) (w : World) → RunsStay w (of_sleepers.hand_out_by b o w).world
runs-hand_out true o w = refl
runs-hand_out false o w = refl

runs-drain : (mark : Mark) (p : ℕ) (w : World) (q : List ℕ) → RunsStay w (acts.drain_by p w mark q).world
runs-drain Urgent p w [] = refl
runs-drain Plain p w [] = refl
runs-drain mark p w (f ∷ rest) = refl

pub runs-act : (p : ℕ) (h : Hint) (o : Op) (w : World) → is_run o ≡ false → RunsStay w (act p h o w).world
runs-act p h (Op.Queue QueueOp.TakeTurn) w n = refl
runs-act p h (Op.Queue (QueueOp.Take look)) w n = runs-take look _ w
runs-act p h (Op.Queue (QueueOp.Append f)) w n = runs-append _ w _ f
runs-act p h (Op.Sleeper SleeperOp.ExchangeFlag) w n = runs-exchange _ w
runs-act p h (Op.Sleeper SleeperOp.HandOut) w n = runs-hand_out _ _ w
runs-act p h (Op.User (UserOp.PollOwn x)) w n = absurd (cc)
runs-act p h (Op.Tick o) w n = absurd (cc)
runs-act p h (Op.List o) w n = absurd (cc)
runs-act p h (Op.Steal o) w n = absurd (cc)
runs-act p h (Op.Run o) w n = absurd (cc)
runs-act p h (Op.Closing (ClosingOp.Close mark)) w n = refl
runs-act p h (Op.Closing (ClosingOp.Drain mark)) w n = runs-drain mark p w _
runs-act p h o w n = ap (λ (r : Rest). r.runs) (sym (frame-act p h o w refl).rest)

-- so few were taken still

set-few : (rs : List Run) (q : ℕ) (y : Run) → y.taken < 200 → ((r : ℕ) → (get_or rs r no_run).taken < 200) →
    (r : ℕ) → (get_or (set rs q y) r no_run).taken < 200
set-few [] q y l k r = k r
set-few (x ∷ rs) zero y l k zero = l
set-few (x ∷ rs) zero y l k (suc r) = k (suc r)
set-few (x ∷ rs) (suc q) y l k zero = k zero
set-few (x ∷ rs) (suc q) y l k (suc r) = set-few rs q y l (λ n. k (suc n)) r

push-few : (rs : List Run) → ((r : ℕ) → (get_or rs r no_run).taken < 200) →
    (r : ℕ) → (get_or (rs ++ new_run ∷ []) r no_run).taken < 200
push-few [] k zero = omega arith
push-few [] k (suc r) = omega arith
push-few (x ∷ rs) k zero = k zero
push-few (x ∷ rs) k (suc r) = push-few rs (λ n. k (suc n)) r

abbrev Pauses : World → World → Type 0
Pauses w v = TakesFew w → TakesFew v

pauses-same : (w v : World) → v.runs ≡ w.runs → Pauses w v
pauses-same w v e k = λ r. omega (arith, k r, ap (λ (rs : List Run). (get_or rs r no_run).taken) e)

pauses-placed : (w v : World) (who : TickOrRun) (x : Ticker) → v.runs ≡ runs_with w.runs who x → Pauses w v
pauses-placed w v (TickOrRun.Tick t) x e k = pauses-same w v e k
pauses-placed w v (TickOrRun.Run q) x e k = λ r. omega (
  arith,
  ap (λ (rs : List Run). (get_or rs r no_run).taken) e,
  set-few w.runs q (record (run_of w q) { place = x }) (k q) k r,
)

pauses-run : (w : World) (q : ℕ) (y : Run) → (TakesFew w → y.taken < 200) → Pauses w (put_run w q y)
pauses-run w q y l k = set-few w.runs q y (l k) k

-- ticks and runs

pauses-make : (b : Bool) (w : World) → Pauses w (of_sleepers.make_tick_by b w).world
pauses-make true w k = k
pauses-make false w k = k

pauses-search : (look : Look) (x : Ticker) (w : World) (q : List ℕ) (s : Sleeping) → Pauses w (of_sleepers.look_tick_by x w look q s).world
pauses-search (First mark) x w [] s k = k
pauses-search (Second mark) x w [] s k = k
pauses-search look x w (f ∷ rest) s k = k

pauses-copied : (w : World) (a : Waker) → Pauses w (acts.copied w a)
pauses-copied w (Task g) k = k
pauses-copied w (Outside x) k = k

pauses-copy : (b : Bool) (w : World) (s : Sleeping) → Pauses w (of_sleepers.copy_sleeper_by b w s).world
pauses-copy true w s k = k
pauses-copy false w s k = pauses-copied w s.waker k

pauses-anew : (b : Bool) (w : World) (s : Sleeping) → Pauses w (of_sleepers.sleep_anew_by b w s).world
pauses-anew true w s k =
    pauses-placed w (of_sleepers.sleep_anew_by true w s).world s.who (Asleep (next_number w.sleepers)) refl k
pauses-anew false w s k = k

pauses-listed : (b : Bool) (w : World) (n : ℕ) (s : Sleeping) → Pauses w (of_sleepers.sleep_listed_by b w n s).world
pauses-listed true w n s k = k
pauses-listed false w n s k = k

pauses-again : (o : Option ℕ) (w : World) (n : ℕ) (s : Sleeping) → Pauses w (of_sleepers.sleep_again_by o w n s).world
pauses-again None w n s k = pauses-listed _ w n s k
pauses-again (Some at) w n s k = k

pauses-sleep : (x : Ticker) (w : World) (s : Sleeping) → Pauses w (of_sleepers.fall_asleep_by x w s).world
pauses-sleep Awake w s k = pauses-anew _ w s k
pauses-sleep (Asleep n) w s k = pauses-again _ w n s k
pauses-sleep Left w s k = k

pauses-up : (x : Ticker) (w : World) (who : TickOrRun) → Pauses w (of_sleepers.wake_up_by x w who).world
pauses-up Awake w who k = k
pauses-up (Asleep n) w who k = pauses-placed w (of_sleepers.wake_up_by (Asleep n) w who).world who Awake refl k
pauses-up Left w who k = k

pauses-leave : (x : Ticker) (w : World) (who : TickOrRun) → Pauses w (of_sleepers.leave_sleepers_by x w who).world
pauses-leave Awake w who k = pauses-placed w (of_sleepers.leave_sleepers_by Awake w who).world who Left refl k
pauses-leave (Asleep n) w who k =
    pauses-placed w (of_sleepers.leave_sleepers_by (Asleep n) w who).world who Left refl k
pauses-leave Left w who k = k

pauses-run_by : (b : Bool) (w : World) (x : RunPoll) (f : ℕ) → eqb ((run_of w x.run).taken + 1) 200 ≡ b →
    Pauses w (runs.run_by b w x f).world
pauses-run_by true w x f e k = pauses-run w x.run _ (λ z. omega arith) k
pauses-run_by false w x f e k =
    let l : (run_of w x.run).taken < 200 = k x.run in
    pauses-run w x.run _ (λ z. grind (arith, nat_tests)) k

pauses-counted : (b : Bool) (w : World) (x : RunPoll) (f : ℕ) → Pauses w (runs.counted_by b w x f).world
pauses-counted true w x f k = pauses-run w x.run _ (λ z. z x.run) k
pauses-counted false w x f k =
    let v : World = runs.counted_to w x.run ((run_of w x.run).counted + 1) in
    pauses-run_by (eqb ((run_of v x.run).taken + 1) 200) v x f refl (pauses-run w x.run _ (λ z. z x.run) k)

pauses-found : (w : World) (x : RunPoll) (f : ℕ) → Pauses w (runs.found w x f).world
pauses-found w x f k = pauses-counted _ w x f k

pauses-stolen : (t : Then) (w : World) (x : RunPoll) → Pauses w (runs.stolen t w x).world
pauses-stolen (Then.Found f) w x k = pauses-found w x f k
pauses-stolen (Then.StealPlain f) w x k = k
pauses-stolen (Then.Run f) w x k = pauses-run_by _ w x f refl k
pauses-stolen (Then.Walk at left) w x k = k

pauses-length : (n : ℕ) (w : World) (s : Steal) → Pauses w (runs.steal_length_by n w s).world
pauses-length zero w s k = pauses-stolen s.then w s.poll k
pauses-length (suc n) w s k = k

pauses-more : (n : ℕ) (w : World) (s : Steal) → Pauses w (runs.steal_by n w s).world
pauses-more zero w s k = pauses-stolen s.then w s.poll k
pauses-more (suc n) w s k = k

pauses-take : (q : List ℕ) (w : World) (s : Steal) (more : ℕ) → Pauses w (runs.steal_take_by q w s more).world
pauses-take [] w s more k = pauses-stolen s.then w s.poll k
pauses-take (f ∷ rest) w s more k = by s.from
  where
    by : (a : Source) → TakesFew (runs.without_first w a rest)
    by (Common mark) = k
    by (Own r) = k

pauses-refused : (t : Then) (w : World) (x : RunPoll) (f : ℕ) → Pauses w (runs.put_refused t w x f).world
pauses-refused (Then.Walk at left) w x f k = k
pauses-refused t w x f k = pauses-stolen t w x k

pauses-put : (b : Bool) (p : ℕ) (w : World) (s : Steal) (more f : ℕ) →
    Pauses w (runs.steal_put_by b p w s more f).world
pauses-put true p w s more f k = pauses-more more (runs.kept_by p w s.poll.run f) s k
pauses-put false p w s more f k = pauses-refused s.then w s.poll f k

pauses-steal : (p : ℕ) (o : StealOp) (w : World) → Pauses w (steal_act p o w).world
pauses-steal p (StealOp.Length s) w k = pauses-length _ w s k
pauses-steal p (StealOp.OwnLength s n) w k = pauses-more _ w s k
pauses-steal p (StealOp.Take s more) w k = pauses-take _ w s more k
pauses-steal p (StealOp.Put s more f) w k = pauses-put _ p w s more f k

pauses-own : (q : List ℕ) (w : World) (x : RunPoll) → Pauses w (runs.search_own_by q w x).world
pauses-own [] w x k = k
pauses-own (f ∷ rest) w x k = pauses-found (put_own w x.run rest) x f k

pauses-searches : (who : TickOrRun) (p : ℕ) (w : World) (s : Sleeping) → Pauses w (search_by_who who p w s).world
pauses-searches (TickOrRun.Tick t) p w s k = k
pauses-searches (TickOrRun.Run r) p w s k = pauses-own _ w _ k

pauses-tick : (p : ℕ) (h : Hint) (o : TickOp) (w : World) → Pauses w (tick_act p h o w).world
pauses-tick p h TickOp.MakeTick w k = pauses-make _ w k
pauses-tick p h (TickOp.Search s) w k = pauses-searches s.who p w s k
pauses-tick p h (TickOp.Look s look) w k = pauses-search look _ w _ s k
pauses-tick p h (TickOp.CopyWaker s) w k = pauses-copy _ w s k
pauses-tick p h (TickOp.FallAsleep s) w k = pauses-sleep _ w s k
pauses-tick p h (TickOp.WakeUp who) w k = pauses-up _ w who k
pauses-tick p h (TickOp.Leave who) w k = pauses-leave _ w who k

pauses-common : (look : Look) (q : List ℕ) (w : World) (x : RunPoll) → Pauses w (runs.search_common_by q w x look).world
pauses-common (First mark) [] w x k = k
pauses-common (Second mark) [] w x k = k
pauses-common look (f ∷ rest) w x k = k

pauses-look : (q : List ℕ) (w : World) (x : RunPoll) (at left : ℕ) → Pauses w (runs.look_own_by q w x at left).world
pauses-look [] w x at left k = k
pauses-look (f ∷ rest) w x at left k = pauses-found (put_own w x.run rest) x f k

pauses-room : (b : Bool) (w : World) → Pauses w (runs.make_room_by b w).world
pauses-room true w k = k
pauses-room false w k = k

pauses-wake : (p : ℕ) (w : World) (a : Waker) → Pauses w (runs.call_by_reference p w a).world
pauses-wake p w (Task g) k =
    pauses-same w (runs.call_by_reference p w (Task g)).world (runs-act p no_hint (Op.Move Move.WakeByReference g) w refl) k
pauses-wake p w (Outside y) k = k

pauses-reschedule : (q : List ℕ) (w : World) (r : ℕ) (a : Reply) → Pauses w (runs.reschedule_by q w r a).world
pauses-reschedule [] w r a k = k
pauses-reschedule (f ∷ rest) w r a k = k

pauses-of-run : (p : ℕ) (h : Hint) (o : RunOp) (w : World) → Pauses w (run_act p h o w).world
pauses-of-run p h RunOp.MakeRoom w k = pauses-room _ w k
pauses-of-run p h RunOp.ReturnRoom w k = k
pauses-of-run p h (RunOp.TakeTurn x) w k = k
pauses-of-run p h (RunOp.SearchCommon x look) w k = pauses-common look _ w x k
pauses-of-run p h (RunOp.LookOwn x at left) w k = pauses-look _ w x at left k
pauses-of-run p h (RunOp.WakeOwn x) w k =
    pauses-wake p (log w (Event.WakerCalled p (Polled.Run x.run) x.poll x.waker)) x.waker k
pauses-of-run p h (RunOp.Reschedule r a) w k = pauses-reschedule _ w r a k

pauses-made : (b : Bool) (w : World) → Pauses w (runs.make_run_by b w).world
pauses-made true w k = k
pauses-made false w k = push-few w.runs k

pauses-registered : (t : Stage) (w : World) (r : ℕ) → Pauses w (runs.registered t w r)
pauses-registered New w r k = pauses-run w r (record (run_of w r) { stage = Listed }) (λ z. z r) k
pauses-registered Listed w r k = k
pauses-registered Ended w r k = k

pauses-list : (h : Hint) (o : ListOp) (w : World) → Pauses w (list_act h o w).world
pauses-list h (ListOp.Write Section.MakeRun) w k = pauses-made _ w k
pauses-list h (ListOp.Write (Section.Register x)) w k = pauses-registered _ w x.run k
pauses-list h (ListOp.Write (Section.Unregister r a)) w k =
    pauses-run w r (record (run_of w r) { stage = Ended }) (λ z. z r) k
pauses-list h _ w k = k

pauses-act-by : (p : ℕ) (h : Hint) (o : Op) (w : World) (b : Bool) → is_run o ≡ b → Pauses w (act p h o w).world
pauses-act-by p h o w false e k = pauses-same w (act p h o w).world (runs-act p h o w e) k
pauses-act-by p h (Op.Tick o) w true e k = pauses-tick p h o w k
pauses-act-by p h (Op.List o) w true e k = pauses-list h o w k
pauses-act-by p h (Op.Steal o) w true e k = pauses-steal p o w k
pauses-act-by p h (Op.Run o) w true e k = pauses-of-run p h o w k
pauses-act-by p h (Op.User (UserOp.PollOwn x)) w true e k = k
pauses-act-by p h _ w true e k = absurd (cc)

pauses-react : (p : ℕ) (o : Op) (u : UserEnd) (w : World) → Pauses w (react p o u w).world
pauses-react p (Op.User (UserOp.Poll f)) (UserEnd.Polled Answer.Pending) w k = k
pauses-react p (Op.User (UserOp.Poll f)) (UserEnd.Polled Answer.Ready) w k = k
pauses-react p (Op.User (UserOp.Poll f)) UserEnd.Done w k = k
pauses-react p (Op.User (UserOp.PollOwn x)) (UserEnd.Polled Answer.Pending) w k = k
pauses-react p (Op.User (UserOp.PollOwn x)) (UserEnd.Polled Answer.Ready) w k = k
pauses-react p (Op.User (UserOp.PollOwn x)) UserEnd.Done w k = k
pauses-react p _ _ w k = k

pauses-with : (w : World) (o : Option ℕ) (d : ℕ → Done) → ((f : ℕ) → Pauses w (d f).world) →
    Pauses w (with_future w o d).world
pauses-with w (Some f) d n k = n f k
pauses-with w None d n k = k

pauses-begun : (p : ℕ) (w : World) (here : Option Waker) (c : Call) → Pauses w (begun p w here c).world
pauses-begun p w here (Call.Wake n) k = pauses-with w (kept w n) _ (λ f z. z) k
pauses-begun p w here (Call.WakeByRef n) k = pauses-with w (kept w n) _ (λ f z. z) k
pauses-begun p w here (Call.Copy n) k = pauses-with w (kept w n) _ (λ f z. z) k
pauses-begun p w here (Call.DropWaker n) k = pauses-with w (kept w n) _ (λ f z. z) k
pauses-begun p w here Call.Keep k = pauses-with w (future_of here) _ (λ f z. z) k
pauses-begun p w here Call.WakeSelf k = pauses-with w (future_of here) _ (λ f z. z) k
pauses-begun p w here (Call.DropRun r) k =
    pauses-run w r (record (run_of w r) { dropped = true }) (λ z. z r) k
pauses-begun p w here _ k = k

-- in each execution of the machine

few-moves : (s : Machine) (p : ℕ) (old rest : List Op) (d : Done) → Good s → p < length s.parties →
    stack s p ≡ rest ++ reverse old → Way s p old rest d → TakesFew s.world → TakesFew (unsettled s p rest d).world
few-moves s p old rest d good l e (acted h o q z) k = rw z (pauses-act-by p h o s.world (is_run o) refl k)
few-moves s p old rest d good l e (reacted o u a q z) k = rw z (pauses-react p o u s.world k)
few-moves s p old rest d good l e (called c q t n z) k =
    rw z (pauses-begun p (log s.world (Event.CallBegun p c)) (mine (top (stack s p))) c k)

pub takes-few : (limit : ℕ) (kind : Kind) (n : ℕ) (ts : List Step) → TakesFew (run ts (start limit kind n)).world
takes-few limit kind n ts = along (λ (s : Machine). TakesFew s.world) few-moves (λ s p a held below l e k. k) ts
    (start limit kind n) (good-start limit kind n) (λ r. omega arith)
