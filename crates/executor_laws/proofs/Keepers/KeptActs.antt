-- For keepers_are_called.
-- What each thing to do and the end of user code leave of the own queues, and of who has a kept future in hand.
use Rattle.std.proofs.Common.{◌≡◌, ℕ, ◌+◌, ◌%◌, ◌<◌, ◌≤◌, List, [], ◌∷◌, length, Bool, true, false, refl, inl, arith}
use Rattle.std.specs.Prelude.{not, Option, Some, None}
use Rattle.executor_parts.specs.Sleepers.{waker_at}
use Rattle.executor_laws.proofs.Types.{UserEnd, Look, First, Second, Move, Answer, Hold, ListOp, Op, RunOp, RunPoll, Section}
use Rattle.executor_laws.proofs.Types.{TickOrRun, Sleeping, StealOp, TableOp, TickOp, UserOp, Waker, Task, Outside, WakerOp}
use Rattle.executor_model.specs.ActsOfSleepers.{copy_sleeper_by, sleep_again_by, sleep_anew_by, fall_asleep_by, sleep_listed_by}
use Rattle.executor_model.specs.ActsOfSleepers.{pend_as, look_tick_by, sleeper_goes}
use Rattle.executor_model.specs.World.{World, Ticker, Awake, Asleep, Left, own_of}
use Rattle.executor_model.specs.{Acts.copy_by, Acts.is_copy_refused, Doing.act, Doing.list_act, Doing.run_act, Doing.search}
use Rattle.executor_model.specs.{Doing.tick_act, Rows.running_of, Steps.accepts, Steps.react, Weights.same, Weights.weigh}
use Rattle.executor_model.proofs.OwnQueues.UsingWorlds.{idle, idle-copy_sleeper, idle-sleep, idle-search}
use Rattle.executor_model.proofs.{Steps.Lists.same_is, Steps.Lists.weigh-append, Steps.SleepersCounting.asleep}
use Rattle.executor_laws.proofs.Keepers.KeptSearch.{keeps-common, keeps-steal, load-look, load-own, of-walks, quits-look}
use Rattle.executor_laws.proofs.Keepers.KeptWeights.{load_of, quits-walk, quits_of}
use Rattle.executor_laws.proofs.Wakeups.StandsRuns.{walks-lock, walks-look_own, walks-search, walks-search_common}
use Rattle.executor_laws.proofs.Keepers.KeptLeads.{IsPast, Leads, keeps-drop, keeps-plain, of-idle}
use Rattle.executor_laws.proofs.Keepers.KeptRuns.{keeps-make, keeps-register, keeps-reschedule, keeps-unregister, keeps-wake}
use Rattle.executor_laws.proofs.{Types.Hint, Keepers.KeptSearch.quits-own, Keepers.KeptGrown.stirs_op}
use Rattle.executor_model.specs.ActsOfRuns as runs

-- sleepers

goes-quits : (r : ℕ) (o : Option Sleeping) → weigh (quits_of r) (sleeper_goes o) ≡ 0
goes-quits r None = refl
goes-quits r (Some s) = by s.waker
  where
    by : (a : Waker) → weigh (quits_of r) (sleeper_goes (Some (record s { waker = a }))) ≡ 0
    by (Task g) = refl
    by (Outside x) = refl

quits-copy : (b : Bool) (r : ℕ) (w : World) (s : Sleeping) → weigh (quits_of r) (copy_sleeper_by b w s).next ≡ 0
quits-copy true r w s = refl
quits-copy false r w s = refl

quits-listed : (b : Bool) (r : ℕ) (w : World) (n : ℕ) (s : Sleeping) →
    weigh (quits_of r) (sleep_listed_by b w n s).next ≡ 0
quits-listed true r w n s = refl
quits-listed false r w n s = refl

quits-again : (o : Option ℕ) (r : ℕ) (w : World) (n : ℕ) (s : Sleeping) →
    weigh (quits_of r) (sleep_again_by o w n s).next ≡ 0
quits-again None r w n s = quits-listed _ r w n s
quits-again (Some at) r w n s = let o : Option Sleeping = waker_at (Some at) w.sleepers.wakers in
    omega (arith, weigh-append (quits_of r) (sleeper_goes o) (pend_as s.who), goes-quits r o)

quits-anew : (b : Bool) (r : ℕ) (w : World) (s : Sleeping) → weigh (quits_of r) (sleep_anew_by b w s).next ≡ 0
quits-anew true r w s = refl
quits-anew false r w s = refl

quits-sleep : (x : Ticker) (r : ℕ) (w : World) (s : Sleeping) → weigh (quits_of r) (fall_asleep_by x w s).next ≡ 0
quits-sleep Awake r w s = quits-anew _ r w s
quits-sleep (Asleep n) r w s = quits-again _ r w n s
quits-sleep Left r w s = refl

quits-search : (look : Look) (x : Ticker) (r : ℕ) (w : World) (q : List ℕ) (s : Sleeping) →
    weigh (quits_of r) (look_tick_by x w look q s).next ≡ 0
quits-search (First mark) x r w [] s = refl
quits-search (Second mark) x r w [] s = refl
quits-search look Awake r w (f ∷ rest) s = refl
quits-search look (Asleep n) r w (f ∷ rest) s = refl
quits-search look Left r w (f ∷ rest) s = refl

-- what is found is in hand
keeps-look : (look : Look) (f : ℕ) (x : Ticker) (w : World) (q : List ℕ) (s : Sleeping) →
    weigh (load_of f) (Op.Tick (TickOp.Look s look) ∷ []) ≤ weigh (load_of f) (look_tick_by x w look q s).next
keeps-look (First mark) f x w [] s = omega arith
keeps-look (Second mark) f x w [] s = omega arith
keeps-look look f Awake w (g ∷ rest) s = omega arith
keeps-look look f (Asleep n) w (g ∷ rest) s = omega arith
keeps-look look f Left w (g ∷ rest) s = omega arith

keeps-search : (who : TickOrRun) (p k : ℕ) (a : Waker) (w : World) →
    Leads w (Op.Tick (TickOp.Search (asleep a who k)) ∷ []) (search p w (asleep a who k))
keeps-search (TickOrRun.Tick u) p k a w = of-idle w _ (search p w (asleep a (TickOrRun.Tick u) k))
    (idle w _ refl refl refl) (λ r. refl) (λ r. refl) (λ f. omega arith)
keeps-search (TickOrRun.Run q) p k a w = let x : RunPoll = record { run = q; waker = a; poll = k } in
    of-walks w x _ (runs.search_own w x) (walks-search w x) (λ r. refl) (λ r. quits-own _ w x r)
    (λ f r. omega (arith, load-own (own_of w q) w x f r refl))

keeps-tick : (p : ℕ) (h : Hint) (o : TickOp) (w : World) → Leads w (Op.Tick o ∷ []) (tick_act p h o w)
keeps-tick p h (TickOp.Search s) w = keeps-search s.who p s.poll s.waker w
keeps-tick p h (TickOp.Look s look) w = of-idle w _ (tick_act p h (TickOp.Look s look) w)
    (idle-search look _ w _ s) (λ r. refl) (λ r. quits-search look _ r w _ s) (λ f. keeps-look look f _ w _ s)
keeps-tick p h (TickOp.CopyWaker s) w = of-idle w _ (tick_act p h (TickOp.CopyWaker s) w)
    (idle-copy_sleeper (is_copy_refused h w s.waker) w s) (λ r. refl) (λ r. quits-copy _ r w s) (λ f. omega arith)
keeps-tick p h (TickOp.FallAsleep s) w = of-idle w _ (tick_act p h (TickOp.FallAsleep s) w)
    (idle-sleep _ w s) (λ r. refl) (λ r. quits-sleep _ r w s) (λ f. omega arith)
keeps-tick p h TickOp.MakeTick w = keeps-plain p h (Op.Tick TickOp.MakeTick) w refl (λ f. refl)
keeps-tick p h (TickOp.WakeUp u) w = keeps-plain p h (Op.Tick (TickOp.WakeUp u)) w refl (λ f. refl)
keeps-tick p h (TickOp.Leave u) w = keeps-plain p h (Op.Tick (TickOp.Leave u)) w refl (λ f. refl)

one-same : (r : ℕ) → 1 ≤ same r r
one-same r = grind (arith, same_is)

keeps-list : (h : Hint) (o : ListOp) (w : World) → ((r : ℕ) → 1 ≤ running_of r (Op.List o) → r < length w.runs) →
    ((r : ℕ) → 1 ≤ weigh (quits_of r) (Op.List o ∷ []) → IsPast w r) → Leads w (Op.List o ∷ []) (list_act h o w)
keeps-list h (ListOp.LockWrite s) w j k = record {
  count = omega arith;
  past = λ r e. e;
  fresh = λ r e. inl e;
  readies = λ r. omega arith;
  quits = λ r. inl (omega arith);
  load = λ f r. inl (omega arith);
}
keeps-list h (ListOp.Write Section.MakeRun) w j k = keeps-make h.refused w
keeps-list h (ListOp.Write (Section.Register x)) w j k = keeps-register _ w x refl
keeps-list h (ListOp.Write (Section.Unregister q a)) w j k =
    keeps-unregister w q a h (j q (one-same q)) (k q)
keeps-list h ListOp.UnlockWrite w j k =
    of-idle w _ _ (idle w _ refl refl refl) (λ r. refl) (λ r. refl) (λ f. omega arith)
keeps-list h (ListOp.LockRead x) w j k = of-walks w x _ (runs.lock_read h w x) (walks-lock h w x) (λ r. refl)
    (λ r. quits-walk r x w.listed (h.start % length w.listed) (length w.listed)) (λ f r. omega arith)
keeps-list h ListOp.UnlockRead w j k =
    of-idle w _ _ (idle w _ refl refl refl) (λ r. refl) (λ r. refl) (λ f. omega arith)

keeps-room : (b : Bool) (w : World) → Leads w (Op.Run RunOp.MakeRoom ∷ []) (runs.make_room_by b w)
keeps-room true w = of-idle w _ _ (idle w _ refl refl refl) (λ r. refl) (λ r. refl) (λ f. omega arith)
keeps-room false w = of-idle w _ _ (idle w _ refl refl refl) (λ r. refl) (λ r. refl) (λ f. omega arith)

one-self : (r : ℕ) → 1 ≤ same r r + 0
one-self r = grind (arith, same_is)

keeps-run : (p : ℕ) (h : Hint) (o : RunOp) (w : World) →
    ((r : ℕ) → 1 ≤ weigh (quits_of r) (Op.Run o ∷ []) → IsPast w r) → Leads w (Op.Run o ∷ []) (run_act p h o w)
keeps-run p h RunOp.MakeRoom w k = keeps-room h.refused w
keeps-run p h RunOp.ReturnRoom w k =
    of-idle w _ _ (idle w _ refl refl refl) (λ r. refl) (λ r. refl) (λ f. omega arith)
keeps-run p h (RunOp.TakeTurn x) w k =
    of-idle w _ _ (idle w _ refl refl refl) (λ r. refl) (λ r. refl) (λ f. omega arith)
keeps-run p h (RunOp.SearchCommon x look) w k = keeps-common look _ w x (walks-search_common w x look)
keeps-run p h (RunOp.LookOwn x at left) w k =
    of-walks w x _ (runs.look_own w x at left) (walks-look_own w x at left) (λ r. refl)
    (λ r. quits-look _ w x at left r) (λ f r. omega (arith, load-look (own_of w x.run) w x at left f r refl))
keeps-run p h (RunOp.WakeOwn x) w k = keeps-wake p w x
keeps-run p h (RunOp.Reschedule q a) w k = keeps-reschedule _ w q a refl (k q (one-self q))

keeps-copied : (b : Bool) (w : World) (f : ℕ) (held : Hold) →
    Leads w (Op.Waker (WakerOp.CopyWaker f held) ∷ []) (copy_by b w f held)
keeps-copied true w f held = of-idle w _ _ (idle w _ refl refl refl) (λ r. refl) (λ r. refl) (λ f. omega arith)
keeps-copied false w f held = of-idle w _ _ (idle w _ refl refl refl) (λ r. refl) (λ r. refl) (λ f. omega arith)

-- what is no taking up of a task, no step of a steal that puts one into an own queue and no end of a call
abbrev pub is_apart : Op → Bool
is_apart (Op.End a held) = false
is_apart o = not (stirs_op o)

load-move : (m : Move) (g f : ℕ) → is_apart (Op.Move m g) ≡ true → load_of f (Op.Move m g) ≡ 0
load-move Move.TakeUp g f n = absurd (cc)
load-move _ g f n = refl

pub keeps-act : (p : ℕ) (h : Hint) (o : Op) (w : World) → is_apart o ≡ true →
    ((r : ℕ) → 1 ≤ running_of r o → r < length w.runs) →
    ((r : ℕ) → 1 ≤ weigh (quits_of r) (o ∷ []) → IsPast w r) → Leads w (o ∷ []) (act p h o w)
keeps-act p h (Op.Move m g) w n j k = keeps-plain p h (Op.Move m g) w refl (λ f. load-move m g f n)
keeps-act p h (Op.Table (TableOp.TakeToDrop g)) w n j k =
    of-idle w _ _ (idle w _ refl refl refl) (λ r. refl) (λ r. refl) (λ f. omega arith)
keeps-act p h (Op.User (UserOp.BeginDrop g)) w n j k = keeps-drop p h g w
keeps-act p h (Op.User (UserOp.PollOwn x)) w n j k =
    of-idle w _ _ (idle w w refl refl refl) (λ r. refl) (λ r. refl) (λ f. omega arith)
keeps-act p h (Op.Waker (WakerOp.CopyWaker g held)) w n j k = keeps-copied _ w g held
keeps-act p h (Op.Tick o) w n j k = keeps-tick p h o w
keeps-act p h (Op.List o) w n j k = keeps-list h o w j k
keeps-act p h (Op.Steal (StealOp.Put s more g)) w n j k = absurd (cc)
keeps-act p h (Op.Steal (StealOp.Length s)) w n j k = keeps-steal p (StealOp.Length s) w refl
keeps-act p h (Op.Steal (StealOp.OwnLength s m)) w n j k = keeps-steal p (StealOp.OwnLength s m) w refl
keeps-act p h (Op.Steal (StealOp.Take s more)) w n j k = keeps-steal p (StealOp.Take s more) w refl
keeps-act p h (Op.Run o) w n j k = keeps-run p h o w k
keeps-act p h (Op.End a held) w n j k = absurd (cc)
keeps-act p h o w n j k = keeps-plain p h o w refl (λ f. refl)

-- the end of user code
pub keeps-react : (p : ℕ) (o : Op) (u : UserEnd) (w : World) → accepts o u ≡ true → Leads w (o ∷ []) (react p o u w)
keeps-react p (Op.User (UserOp.PollOwn x)) (UserEnd.Polled Answer.Pending) w a =
    of-idle w _ _ (idle w _ refl refl refl) (λ r. refl) (λ r. refl) (λ f. omega arith)
keeps-react p (Op.User (UserOp.PollOwn x)) (UserEnd.Polled Answer.Ready) w a =
    of-idle w _ _ (idle w _ refl refl refl) (λ r. refl) (λ r. refl) (λ f. omega arith)
keeps-react p (Op.User (UserOp.Poll g)) (UserEnd.Polled Answer.Pending) w a =
    of-idle w _ _ (idle w _ refl refl refl) (λ r. refl) (λ r. refl) (λ f. omega arith)
keeps-react p (Op.User (UserOp.Poll g)) (UserEnd.Polled Answer.Ready) w a =
    of-idle w _ _ (idle w _ refl refl refl) (λ r. refl) (λ r. refl) (λ f. omega arith)
keeps-react p (Op.User (UserOp.Drop g)) UserEnd.Done w a =
    of-idle w _ _ (idle w _ refl refl refl) (λ r. refl) (λ r. refl) (λ f. omega arith)
keeps-react p (Op.User (UserOp.DropOutput g)) UserEnd.Done w a =
    of-idle w _ _ (idle w _ refl refl refl) (λ r. refl) (λ r. refl) (λ f. omega arith)
keeps-react p (Op.User (UserOp.CallOutside y)) UserEnd.Done w a =
    of-idle w _ _ (idle w _ refl refl refl) (λ r. refl) (λ r. refl) (λ f. omega arith)
keeps-react p (Op.User (UserOp.DropOwn q)) UserEnd.Done w a =
    of-idle w _ _ (idle w _ refl refl refl) (λ r. refl) (λ r. refl) (λ f. omega arith)
keeps-react p _ _ w a = absurd (cc)
