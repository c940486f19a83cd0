-- For quiet_emptiness_is_exact, outputs_are_kept, awaiters_are_kept and own_queues_agree.
-- What tells sleepers answers no call; what a tick does leads to one answer.
use Rattle.std.proofs.Common.{◌≡◌, ℕ, List, [], ◌∷◌, Bool, true, false, refl}
use Rattle.std.specs.Prelude.{Option, Some, None, is_none}
use Rattle.executor_parts.specs.Sleepers.{waker_at, waker_of}
use Rattle.executor_model.proofs.Types.{Look, First, Second, Move, Reply, Event, Op, Polled, Sleeping, SleeperOp, TickOp, Waker}
use Rattle.executor_model.specs.ActsOfSleepers.{exchange_by, hand_out_by, held_as, make_tick_by, polled_as, look_tick_by}
use Rattle.executor_model.specs.ActsOfSleepers.{copy_sleeper_by, sleep_anew_by, sleeper_goes, sleep_listed_by, sleep_again_by}
use Rattle.executor_model.specs.World.{World, Ticker, Awake, Asleep, Left, log}
use Rattle.executor_model.specs.ActsOfSleepers.{fall_asleep_by, wake_up_by, tell_and_return, leave_sleepers_by}
use Rattle.executor_model.specs.{Acts.call_waker, Acts.copied, Doing.search_by_who, Doing.sleeper_act, Doing.tick_act}
use Rattle.executor_model.proofs.Quiet.Calls.{calling_of, Steady, steady-same, steady-log, steady-and, steady-wake, Answering}
use Rattle.executor_model.proofs.Quiet.Calls.{Calls, calls-turn, inside, answers, single, then, none-wake, none-both}
use Rattle.executor_model.proofs.Steps.SleepersNext.{Unseen, goes-unseen, tell-unseen, sleeper-unseen}
use Rattle.executor_model.proofs.{Types.Task, Types.Outside, Types.Hint, Types.TickOrRun, Quiet.RunsCalls.calls-search_run}

unseen : Unseen calling_of
unseen = record { hand = refl; call = λ s. refl; outside = λ x. refl; wake = λ p w f. none-wake p w f }

steady-call : (p : ℕ) (w : World) (o : Polled) (a : Waker) (k : ℕ) → Steady w (call_waker p w o a k).world
steady-call p w o (Task m) k = let v = log w (Event.WakerCalled p o k (Task m)) in
    steady-and w v _ (steady-log w v (Event.WakerCalled p o k (Task m)) refl (λ q. refl) (λ q. refl))
    (steady-wake p v m)
steady-call p w o (Outside x) k = steady-log w _ (Event.WakerCalled p o k (Outside x)) refl (λ q. refl) (λ q. refl)

steady-exchange : (b : Bool) (w : World) → Steady w (exchange_by b w).world
steady-exchange true w = steady-same _ _ refl
steady-exchange false w = steady-same _ _ refl

steady-hand_out : (b : Bool) (o : Option Sleeping) (w : World) → Steady w (hand_out_by b o w).world
steady-hand_out true o w = steady-same _ _ refl
steady-hand_out false o w = steady-same _ _ refl

steady-sleeper : (p : ℕ) (o : SleeperOp) (w : World) → Steady w (sleeper_act p o w).world
steady-sleeper p SleeperOp.ExchangeFlag w = steady-exchange _ w
steady-sleeper p SleeperOp.HandOut w = steady-hand_out _ _ w
steady-sleeper p (SleeperOp.CallSleeper s) w = steady-call p w (polled_as s.who) s.waker s.poll

idle : (o : SleeperOp) → calling_of (Op.Sleeper o) ≡ 0
idle SleeperOp.ExchangeFlag = refl
idle SleeperOp.HandOut = refl
idle (SleeperOp.CallSleeper s) = refl

pub calls-sleeper : (p : ℕ) (o : SleeperOp) (w : World) → Calls w (Op.Sleeper o) (sleeper_act p o w)
calls-sleeper p o w = inside w (Op.Sleeper o) (sleeper_act p o w) (idle o) (steady-sleeper p o w)
    (sleeper-unseen calling_of unseen p o w)

found : (x : Ticker) (w : World) (look : Look) (f : ℕ) (rest : List ℕ) (s : Sleeping) →
    Answering (look_tick_by x w look (f ∷ rest) s).next
found Awake w look f rest s =
    then (Op.Sleeper SleeperOp.ExchangeFlag ∷ Op.Move Move.TakeUp f ∷ [])
    (Op.End Reply.Ready (held_as s.who)) refl refl
found (Asleep n) w look f rest s =
    then (Op.Tick (TickOp.WakeUp s.who) ∷ Op.Sleeper SleeperOp.ExchangeFlag ∷ Op.Move Move.TakeUp f ∷ [])
    (Op.End Reply.Ready (held_as s.who)) refl refl
found Left w look f rest s =
    then (Op.Sleeper SleeperOp.ExchangeFlag ∷ Op.Move Move.TakeUp f ∷ [])
    (Op.End Reply.Ready (held_as s.who)) refl refl

calls-make : (b : Bool) (w : World) → Calls w (Op.Tick TickOp.MakeTick) (make_tick_by b w)
calls-make true w = answers w _ _ refl (steady-same _ _ refl) (single _ refl)
calls-make false w = answers w _ _ refl (steady-same _ _ refl) (single _ refl)

calls-search : (look : Look) (x : Ticker) (w : World) (q : List ℕ) (s : Sleeping) →
    Calls w (Op.Tick (TickOp.Look s look)) (look_tick_by x w look q s)
calls-search (First mark) x w [] s = answers w _ _ refl (steady-same _ _ refl) (single _ refl)
calls-search (Second mark) x w [] s = answers w _ _ refl (steady-same _ _ refl) (single _ refl)
calls-search look x w (f ∷ rest) s = answers w _ _ refl (steady-same _ _ refl) (found x w look f rest s)

calls-search_who : (who : TickOrRun) (p : ℕ) (w : World) (s : Sleeping) → s.who ≡ who →
    Calls w (Op.Tick (TickOp.Search s)) (search_by_who who p w s)
calls-search_who (TickOrRun.Tick t) p w s e =
    calls-turn p w (Op.Tick (TickOp.Search s)) (λ look. Op.Tick (TickOp.Look s look)) refl (λ look. refl)
calls-search_who (TickOrRun.Run r) p w s e = calls-search_run w r s e

steady-copied : (w : World) (a : Waker) → Steady w (copied w a)
steady-copied w (Task m) = steady-same _ _ refl
steady-copied w (Outside x) = steady-same _ _ refl

calls-copy : (b : Bool) (w : World) (s : Sleeping) → Calls w (Op.Tick (TickOp.CopyWaker s)) (copy_sleeper_by b w s)
calls-copy true w s = answers w _ _ refl (steady-same _ _ refl) (single _ refl)
calls-copy false w s = answers w _ _ refl (steady-copied w s.waker) (single _ refl)

calls-anew : (b : Bool) (w : World) (s : Sleeping) → Calls w (Op.Tick (TickOp.FallAsleep s)) (sleep_anew_by b w s)
calls-anew true w s = answers w _ _ refl (steady-same _ _ refl) (single _ refl)
calls-anew false w s = answers w _ _ refl (steady-same _ _ refl)
    (then (Op.Sleeper (SleeperOp.CallSleeper s) ∷ []) _ refl refl)

calls-listed : (b : Bool) (w : World) (n : ℕ) (s : Sleeping) →
    Calls w (Op.Tick (TickOp.FallAsleep s)) (sleep_listed_by b w n s)
calls-listed true w n s = answers w _ _ refl (steady-same _ _ refl) (single _ refl)
calls-listed false w n s =
    answers w _ _ refl (steady-same _ _ refl) (then (Op.Sleeper (SleeperOp.CallSleeper s) ∷ []) _ refl refl)

calls-again : (o : Option ℕ) (w : World) (n : ℕ) (s : Sleeping) →
    Calls w (Op.Tick (TickOp.FallAsleep s)) (sleep_again_by o w n s)
calls-again None w n s = calls-listed _ w n s
calls-again (Some at) w n s = let old = waker_at (Some at) w.sleepers.wakers in
    answers w _ _ refl (steady-same _ _ refl) (then (sleeper_goes old) _ (goes-unseen calling_of (λ f. refl) old) refl)

calls-sleep : (x : Ticker) (w : World) (s : Sleeping) → Calls w (Op.Tick (TickOp.FallAsleep s)) (fall_asleep_by x w s)
calls-sleep Awake w s = calls-anew _ w s
calls-sleep (Asleep n) w s = calls-again _ w n s
calls-sleep Left w s = answers w _ _ refl (steady-same _ _ refl)
    (then (Op.Sleeper (SleeperOp.CallSleeper s) ∷ []) _ refl refl)

calls-up : (x : Ticker) (w : World) (t : TickOrRun) → Calls w (Op.Tick (TickOp.WakeUp t)) (wake_up_by x w t)
calls-up Awake w t = inside w _ _ refl (steady-same _ _ refl) refl
calls-up (Asleep n) w t = inside w _ _ refl (steady-same _ _ refl)
    (goes-unseen calling_of (λ g. refl) (waker_of n w.sleepers.wakers))
calls-up Left w t = inside w _ _ refl (steady-same _ _ refl) refl

calls-leave_sleepers : (x : Ticker) (w : World) (t : TickOrRun) → Calls w (Op.Tick (TickOp.Leave t))
    (leave_sleepers_by x w t)
calls-leave_sleepers Awake w t = inside w _ _ refl (steady-same _ _ refl) refl
calls-leave_sleepers (Asleep n) w t =
    let old = waker_of n w.sleepers.wakers in
    inside w _ _ refl (steady-same _ _ refl)
    (none-both (sleeper_goes old) (tell_and_return (is_none old)) (goes-unseen calling_of (λ g. refl) old)
    (tell-unseen calling_of refl refl (is_none old)))
calls-leave_sleepers Left w t = inside w _ _ refl (steady-same _ _ refl) refl

pub calls-tick : (p : ℕ) (h : Hint) (o : TickOp) (w : World) → Calls w (Op.Tick o) (tick_act p h o w)
calls-tick p h TickOp.MakeTick w = calls-make _ w
calls-tick p h (TickOp.Search s) w = calls-search_who s.who p w s refl
calls-tick p h (TickOp.Look s look) w = calls-search look _ w _ s
calls-tick p h (TickOp.CopyWaker s) w = calls-copy _ w s
calls-tick p h (TickOp.FallAsleep s) w = calls-sleep _ w s
calls-tick p h (TickOp.WakeUp t) w = calls-up _ w t
calls-tick p h (TickOp.Leave t) w = calls-leave_sleepers _ w t
