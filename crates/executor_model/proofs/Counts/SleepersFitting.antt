-- For one_runnable and references_are_counted.
-- What tells sleepers, and what a tick does, leaves numbers that are futures'.
use Rattle.std.proofs.Common.{◌≡◌, ℕ, List, [], ◌∷◌, length, Bool, true, false, not, refl, ap, arith}
use Rattle.std.proofs.Math.ListN.{length-set}
use Rattle.std.specs.Prelude.{Option, Some, None, is_none}
use Rattle.executor_parts.specs.Sleepers.{last_waker, position_of, waker_at, waker_of}
use Rattle.executor_model.proofs.Types.{Look, First, Second, State, Event, Op, Polled, Sleeping, SleeperOp, TickOp, Waker, Task}
use Rattle.executor_model.specs.ActsOfSleepers.{exchange_by, hand_out_by, make_tick_by, look_tick_by, copy_sleeper_by}
use Rattle.executor_model.specs.ActsOfSleepers.{sleep_anew_by, sleeper_goes, sleep_listed_by, pend_as, sleep_again_by}
use Rattle.executor_model.specs.World.{queue_of, World, Ticker, Awake, Asleep, Left, done, log, log_if, task}
use Rattle.executor_model.specs.ActsOfSleepers.{fall_asleep_by, wake_up_by, tell_and_return, leave_sleepers_by}
use Rattle.executor_model.specs.{Acts.mark_in, Acts.call_waker, Weights.weigh, Weights.waker_past, Good.Fits, Rows.past_of}
use Rattle.executor_model.proofs.Counts.Fitting.{Grown, Grows, Shaped, shaped, fits-log, same-log, grows-carried, past_goes}
use Rattle.executor_model.proofs.Steps.SleepersLists.{held, sleepers-last, sleepers-woken_up, sleepers-set}
use Rattle.executor_model.proofs.{Steps.QueuesByMark.pasts-first, Types.Outside, Types.TickOrRun, Steps.Lists.weigh-append}
use Rattle.task_moves.specs.Moves as moves

-- the places of futures are as they were
fits-sleepers : (w v : World) → v.tasks ≡ w.tasks → v.awaiters ≡ w.awaiters → v.inside ≡ w.inside → Fits w → Shaped v
fits-sleepers w v e a i h = grind arith

-- a waker that goes speaks of a future that is there, where its entry did
past_goes_if : (n : ℕ) (o : Option Sleeping) → weigh (past_of n) (sleeper_goes o) ≡ held (waker_past n) o
past_goes_if n None = refl
past_goes_if n (Some s) = past_goes n s.waker

pub grows-exchange : (b : Bool) (w : World) → Grows w (Op.Sleeper SleeperOp.ExchangeFlag ∷ []) (exchange_by b w)
grows-exchange true w h k = grind arith
grows-exchange false w h k =
    record {
      fits = fits-sleepers w _ refl refl refl h;
      next = refl;
      more = omega arith;
    }

pub grows-hand_out : (b : Bool) (o : Option Sleeping) (w : World) → last_waker w.sleepers.wakers ≡ o →
    Grows w (Op.Sleeper SleeperOp.HandOut ∷ []) (hand_out_by b o w)
grows-hand_out false o w e h k = grind arith
grows-hand_out true None w e h k =
    record {
      fits = fits-sleepers w _ refl refl refl h;
      next = refl;
      more = omega arith;
    }
grows-hand_out true (Some s) w e h k =
    let v = waker_past (length w.tasks) in
    record {
      fits = fits-sleepers w _ refl refl refl h;
      next = omega (arith, sleepers-last v w.sleepers, h.sleepers, ap (held v) e);
      more = omega arith;
    }

pub grows-call_waker : (p : ℕ) (w : World) (o : Polled) (a : Waker) (k : ℕ) → waker_past (length w.tasks) a ≡ 0 →
    Fits w → Grown w (call_waker p w o a k)
grows-call_waker p w o (Task g) k z h =
    let v = log w (Event.WakerCalled p o k (Task g)) in
    let b = not (moves.is_over (task w g)) in
    grows-carried w (log_if b v (Event.Woken p g)) g (moves.wake (task w g)) (same-log b v (Event.Woken p g))
    (fits-log b v (Event.Woken p g) (fits-log true w (Event.WakerCalled p o k (Task g)) (shaped w h))) z
grows-call_waker p w o (Outside x) k z h =
    record { fits = fits-log true w (Event.WakerCalled p o k (Outside x)) (shaped w h); next = refl; more = omega arith }

pub grows-make_tick : (b : Bool) (w : World) → Grows w (Op.Tick TickOp.MakeTick ∷ []) (make_tick_by b w)
grows-make_tick true w h k = grind arith
grows-make_tick false w h k =
    record {
      fits = fits-sleepers w _ refl refl refl h;
      next = refl;
      more = omega arith;
    }

pub grows-search : (look : Look) (x : Ticker) (q : List ℕ) (w : World) (s : Sleeping) → (queue_of w (mark_in look)).items ≡ q →
    Grows w (Op.Tick (TickOp.Look s look) ∷ []) (look_tick_by x w look q s)
grows-search (First mark) x [] w s e h k = grind arith
grows-search (Second mark) x [] w s e h k = grind arith
grows-search look Awake (f ∷ rest) w s e h k =
    let z = pasts-first (length w.tasks) f rest (mark_in look) w.queues e in grind arith
grows-search look (Asleep n) (f ∷ rest) w s e h k =
    let z = pasts-first (length w.tasks) f rest (mark_in look) w.queues e in grind arith
grows-search look Left (f ∷ rest) w s e h k =
    let z = pasts-first (length w.tasks) f rest (mark_in look) w.queues e in grind arith

pub grows-copy_sleeper : (b : Bool) (a : Waker) (t : TickOrRun) (m : ℕ) (w : World) →
    Grows w (Op.Tick (TickOp.CopyWaker (record { waker = a; who = t; poll = m })) ∷ [])
    (copy_sleeper_by b w (record { waker = a; who = t; poll = m }))
grows-copy_sleeper true a t m w h k = grind arith
grows-copy_sleeper false (Task g) t m w h k = grind (arith, length-set {A = State})
grows-copy_sleeper false (Outside x) t m w h k = grind arith

-- another list of sleepers is stored, and a tick with it
grows-put : (w v : World) (next : List Op) → v.tasks ≡ w.tasks → v.awaiters ≡ w.awaiters → v.inside ≡ w.inside →
    weigh (past_of (length w.tasks)) next ≡ 0 → Fits w → Grown w (done v next)
grows-put w v next e a i n h =
    record { fits = fits-sleepers w v e a i h; next = rw e n; more = omega (arith, ap length e) }

grows-sleep_anew : (b : Bool) (w : World) (s : Sleeping) → Grows w (Op.Tick (TickOp.FallAsleep s) ∷ []) (sleep_anew_by b w s)
grows-sleep_anew true w s h k = grows-put w _ _ refl refl refl (omega (arith, k)) h
grows-sleep_anew false w s h k = grind arith

grows-sleep_listed : (b : Bool) (w : World) (n : ℕ) (s : Sleeping) →
    Grows w (Op.Tick (TickOp.FallAsleep s) ∷ []) (sleep_listed_by b w n s)
grows-sleep_listed true w n s h k = grows-put w _ _ refl refl refl (omega (arith, k)) h
grows-sleep_listed false w n s h k = grind arith

grows-sleep_again : (o : Option ℕ) (w : World) (n : ℕ) (s : Sleeping) → position_of n w.sleepers.wakers ≡ o →
    Grows w (Op.Tick (TickOp.FallAsleep s) ∷ []) (sleep_again_by o w n s)
grows-sleep_again None w n s e h k = grows-sleep_listed _ w n s h k
grows-sleep_again (Some at) w n s e h k =
    let v = waker_past (length w.tasks) in
    let z = sleepers-set v n at s w.sleepers.wakers e in
    let old = waker_at (Some at) w.sleepers.wakers in
    grows-put w _ _ refl refl refl (omega (
      arith,
      z,
      h.sleepers,
      k,
      weigh-append (past_of (length w.tasks)) (sleeper_goes old) (pend_as s.who),
      past_goes_if (length w.tasks) old,
    )) h

pub grows-fall_asleep : (x : Ticker) (w : World) (s : Sleeping) →
    Grows w (Op.Tick (TickOp.FallAsleep s) ∷ []) (fall_asleep_by x w s)
grows-fall_asleep Awake w s h k = grows-sleep_anew _ w s h k
grows-fall_asleep (Asleep n) w s h k = grows-sleep_again _ w n s refl h k
grows-fall_asleep Left w s h k = grind arith

pub grows-wake_up : (x : Ticker) (w : World) (t : TickOrRun) → Grows w (Op.Tick (TickOp.WakeUp t) ∷ []) (wake_up_by x w t)
grows-wake_up Awake w t h k = grind arith
grows-wake_up (Asleep n) w t h k =
    let v = waker_past (length w.tasks) in
    let z = sleepers-woken_up v n w.sleepers in
    let old = waker_of n w.sleepers.wakers in
    grows-put w _ _ refl refl refl (omega (arith, z, h.sleepers, k, past_goes_if (length w.tasks) old)) h
grows-wake_up Left w t h k = grind arith

past_tell : (n : ℕ) (b : Bool) → weigh (past_of n) (tell_and_return b) ≡ 0
past_tell n true = refl
past_tell n false = refl

pub grows-leave_sleepers : (x : Ticker) (w : World) (t : TickOrRun) →
    Grows w (Op.Tick (TickOp.Leave t) ∷ []) (leave_sleepers_by x w t)
grows-leave_sleepers Awake w t h k =
    grows-put w _ _ refl refl refl refl h
grows-leave_sleepers (Asleep n) w t h k =
    let v = waker_past (length w.tasks) in
    let z = sleepers-woken_up v n w.sleepers in
    let old = waker_of n w.sleepers.wakers in
    let told = tell_and_return (is_none old) in
    grows-put w _ _ refl refl refl (omega (
      arith,
      z,
      h.sleepers,
      weigh-append (past_of (length w.tasks)) (sleeper_goes old) told,
      past_tell (length w.tasks) (is_none old),
      past_goes_if (length w.tasks) old,
    )) h
grows-leave_sleepers Left w t h k = grind arith
