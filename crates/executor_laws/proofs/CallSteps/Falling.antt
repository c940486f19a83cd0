-- How sleepers are told, and how ticks and runs fall asleep, wake up and leave, goes as `call_steps` says.
use Rattle.std.proofs.Common.{◌≡◌, ℕ, Bool, true, false, not, List, [], ◌∷◌, length, refl}
use Rattle.std.specs.Prelude.{◌==◌, Option, Some, None, nat_lt, is_none}
use Rattle.executor_parts.specs.Sleepers.{last_waker, position_of, waker_at, waker_of}
use Rattle.call_steps.specs.declared.step.tick.SleeperStep.{SleeperStep}
use Rattle.call_steps.specs.Next.{next, next_sleeper, next_tick}
use Rattle.call_steps.{specs.declared.step.CallStep.CallStep, specs.declared.step.tick.TickStep.TickStep, specs.Owing.released}
use Rattle.call_steps.{specs.Sleeping.tell_and_return as tells_and_returns}
use Rattle.executor_laws.proofs.Types.{SleeperOp, Sleeping, TickOrRun, Look, First, Second, Waker}
use Rattle.executor_model.specs.declared.op.TickOrRun.TheVariants.{Run, Tick}
use Rattle.executor_model.specs.ActsOfSleepers.{copy_sleeper_by, exchange_by, fall_asleep_by, hand_out_by, leave_sleepers_by}
use Rattle.executor_model.specs.ActsOfSleepers.{look_tick, look_tick_by, make_tick_by, pend_as, polled_as, sleep_again_by}
use Rattle.executor_model.specs.ActsOfSleepers.{sleep_anew_by, sleep_listed_by, sleeper_goes, tell_and_return, wake_up_by}
use Rattle.executor_model.specs.World.{World, Ticker, Awake, Asleep, Left, queue_of, run_of, tick_of}
use Rattle.executor_model.specs.{Acts.mark_in, Doing.sleeper_act}
use Rattle.executor_laws.specs.SeenByCalls.{allowed, fell_asleep, found, going, handed_out, laid, laid_again, left}
use Rattle.executor_laws.specs.SeenByCalls.{seen_sleeper, sleeps, searcher, unless_refused, woke_up}
use Rattle.executor_laws.specs.StepsOfCalls.{look_of, sleeper_step_of, sleeping_of, steps_of, waker_of as called, who_of}
use Rattle.executor_laws.proofs.CallSteps.Owing.{both, of-call, of-waker}

of-exchange : (b : Bool) (w : World) →
    steps_of (exchange_by b w).next ≡ next_sleeper SleeperStep.ExchangeFlag (allowed (not b))
of-exchange true w = refl
of-exchange false w = refl

of-hand-out : (b : Bool) (s : Option Sleeping) (w : World) →
    steps_of (hand_out_by b s w).next ≡ next_sleeper SleeperStep.HandOut (handed_out b s)
of-hand-out true None w = refl
of-hand-out true (Some s) w = refl
of-hand-out false None w = refl
of-hand-out false (Some s) w = refl

pub of-sleepers : (p : ℕ) (o : SleeperOp) (w : World) →
    steps_of (sleeper_act p o w).next ≡ next (CallStep.Sleeper (sleeper_step_of o)) (seen_sleeper o w)
of-sleepers p SleeperOp.ExchangeFlag w = of-exchange w.notified w
of-sleepers p SleeperOp.HandOut w =
    of-hand-out (length w.sleepers.wakers == w.sleepers.count) (last_waker w.sleepers.wakers) w
of-sleepers p (SleeperOp.CallSleeper s) w = of-call p w (polled_as s.who) s.waker s.poll

pub of-make : (b : Bool) (w : World) → steps_of (make_tick_by b w).next ≡ next_tick TickStep.MakeTick (unless_refused b)
of-make true w = refl
of-make false w = refl

of-look-at : (look : Look) (x : Ticker) (w : World) (fs : List ℕ) (who : TickOrRun) (k : ℕ) (a : Waker) (counted taken : ℕ) →
    steps_of (look_tick_by x w look fs (record { waker = a; who = who; poll = k })).next
    ≡ next_tick (TickStep.Look (record { waker = called a; who = who_of who }) (look_of look))
    (found fs (record { sleeps = sleeps x; counted = counted; taken = taken }))
of-look-at (First mark) x w [] who k a counted taken = refl
of-look-at (Second mark) x w [] who k a counted taken = refl
of-look-at look Awake w (f ∷ fs) who k a counted taken = refl
of-look-at look (Asleep n) w (f ∷ fs) who k a counted taken = refl
of-look-at look Left w (f ∷ fs) who k a counted taken = refl

pub of-ticks-look : (look : Look) (who : TickOrRun) (w : World) (k : ℕ) (a : Waker) →
    steps_of (look_tick w (record { waker = a; who = who; poll = k }) look).next
    ≡ next_tick (TickStep.Look (record { waker = called a; who = who_of who }) (look_of look))
    (found (queue_of w (mark_in look)).items (searcher w who))
of-ticks-look look (Tick t) w k a = of-look-at look (tick_of w t) w (queue_of w (mark_in look)).items (Tick t) k a 0 0
of-ticks-look look (Run r) w k a =
    of-look-at look (run_of w r).place w (queue_of w (mark_in look)).items (Run r) k a (run_of w r).counted (run_of w r).taken

pub of-copy : (b : Bool) (w : World) (s : Sleeping) →
    steps_of (copy_sleeper_by b w s).next ≡ next_tick (TickStep.CopyWaker (sleeping_of s)) (unless_refused b)
of-copy true w s = refl
of-copy false w s = refl

of-goes : (o : Option Sleeping) → steps_of (sleeper_goes o) ≡ released (going o)
of-goes None = refl
of-goes (Some s) = of-waker s.waker

of-anew : (b : Bool) (w : World) (s : Sleeping) →
    steps_of (sleep_anew_by b w s).next ≡ next_tick (TickStep.FallAsleep (sleeping_of s)) (laid b)
of-anew true w s = refl
of-anew false w s = refl

of-listed : (b : Bool) (w : World) (n : ℕ) (s : Sleeping) →
    steps_of (sleep_listed_by b w n s).next ≡ next_tick (TickStep.FallAsleep (sleeping_of s)) (laid b)
of-listed true w n s = refl
of-listed false w n s = refl

of-again : (x : Option ℕ) (w : World) (n : ℕ) (s : Sleeping) →
    steps_of (sleep_again_by x w n s).next ≡ next_tick (TickStep.FallAsleep (sleeping_of s)) (laid_again x w)
of-again (Some at) w n s =
    both (sleeper_goes (waker_at (Some at) w.sleepers.wakers)) (pend_as s.who) _ _
    (of-goes (waker_at (Some at) w.sleepers.wakers)) refl
of-again None w n s = of-listed (nat_lt (length w.sleepers.wakers) w.sleepers.count) w n s

pub of-falling : (x : Ticker) (w : World) (s : Sleeping) →
    steps_of (fall_asleep_by x w s).next ≡ next_tick (TickStep.FallAsleep (sleeping_of s)) (fell_asleep x w)
of-falling Awake w s = of-anew (nat_lt w.sleepers.count w.sleepers.rooms) w s
of-falling (Asleep n) w s = of-again (position_of n w.sleepers.wakers) w n s
of-falling Left w s = refl

pub of-waking : (x : Ticker) (w : World) (who : TickOrRun) →
    steps_of (wake_up_by x w who).next ≡ next_tick (TickStep.WakeUp (who_of who)) (woke_up x w)
of-waking (Asleep n) w who = of-goes (waker_of n w.sleepers.wakers)
of-waking Awake w who = refl
of-waking Left w who = refl

of-told : (o : Option Sleeping) → steps_of (tell_and_return (is_none o)) ≡ tells_and_returns (is_none (going o))
of-told None = refl
of-told (Some s) = refl

pub of-leaving : (x : Ticker) (w : World) (who : TickOrRun) →
    steps_of (leave_sleepers_by x w who).next ≡ next_tick (TickStep.Leave (who_of who)) (left x w)
of-leaving (Asleep n) w who =
    both (sleeper_goes (waker_of n w.sleepers.wakers)) (tell_and_return (is_none (waker_of n w.sleepers.wakers))) _ _
    (of-goes (waker_of n w.sleepers.wakers)) (of-told (waker_of n w.sleepers.wakers))
of-leaving Awake w who = refl
of-leaving Left w who = refl
