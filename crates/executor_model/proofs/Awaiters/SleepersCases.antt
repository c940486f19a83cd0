-- For awaiters_are_kept.
-- What a tick or run does, by its cases: whether it is awake, sleeps or left, and whose waker goes.
use Rattle.std.proofs.Common.{ℕ, List, [], ◌∷◌, Bool, true, false}
use Rattle.std.specs.Prelude.{Option, Some, None}
use Rattle.executor_parts.specs.Sleepers.{waker_at, waker_of}
use Rattle.executor_model.proofs.Types.{Op, TickOrRun, Sleeping, TickOp, Waker, Task, Outside}
use Rattle.executor_model.specs.ActsOfSleepers.{sleep_nowhere, sleep_anew_by, sleep_listed_by, sleep_again_by, fall_asleep_by}
use Rattle.executor_model.specs.World.{World, Ticker, Awake, Asleep, Left, Done, done}
use Rattle.executor_model.specs.ActsOfSleepers.{wake_up_by, leave_sleepers_by}
use Rattle.executor_model.proofs.Steps.SleepersCounting.{asleep, replaced, gone_awake, gone_off}

-- whichever waker goes: none, one of a task, or an outside one
pub by_going : (Q : Option Sleeping → Type 0) → Q None →
    ((m : ℕ) (u : TickOrRun) (k : ℕ) → Q (Some (asleep (Task m) u k))) →
    ((x : ℕ) (u : TickOrRun) (k : ℕ) → Q (Some (asleep (Outside x) u k))) → (old : Option Sleeping) → Q old
by_going Q none task outside None = none
by_going Q none task outside (Some s) = by s.waker
  where
    by : (a : Waker) → Q (Some (asleep a s.who s.poll))
    by (Task m) = task m s.who s.poll
    by (Outside x) = outside x s.who s.poll

module _ (P : World → List Op → Done → Type 0) where
  pub record FallsAsleep : Type 0 where
    pub nowhere : (w : World) (s : Sleeping) → P w (Op.Tick (TickOp.FallAsleep s) ∷ []) (sleep_nowhere w s)
    pub anew : (w : World) (s : Sleeping) → P w (Op.Tick (TickOp.FallAsleep s) ∷ []) (sleep_anew_by true w s)
    pub listed : (w : World) (n : ℕ) (s : Sleeping) →
        P w (Op.Tick (TickOp.FallAsleep s) ∷ []) (sleep_listed_by true w n s)
    pub again : (w : World) (n at : ℕ) (s : Sleeping) (old : Option Sleeping) →
        P w (Op.Tick (TickOp.FallAsleep s) ∷ []) (replaced old w n at s)

  pub sleeps-down : FallsAsleep → (x : Ticker) (w : World) (s : Sleeping) →
      P w (Op.Tick (TickOp.FallAsleep s) ∷ []) (fall_asleep_by x w s)
  sleeps-down c x w s = by x
    where
      anew : (b : Bool) → P w (Op.Tick (TickOp.FallAsleep s) ∷ []) (sleep_anew_by b w s)
      anew true = c.anew w s
      anew false = c.nowhere w s

      listed : (b : Bool) (n : ℕ) → P w (Op.Tick (TickOp.FallAsleep s) ∷ []) (sleep_listed_by b w n s)
      listed true n = c.listed w n s
      listed false n = c.nowhere w s

      again : (o : Option ℕ) (n : ℕ) → P w (Op.Tick (TickOp.FallAsleep s) ∷ []) (sleep_again_by o w n s)
      again None n = listed _ n
      again (Some at) n = c.again w n at s (waker_at (Some at) w.sleepers.wakers)

      by : (y : Ticker) → P w (Op.Tick (TickOp.FallAsleep s) ∷ []) (fall_asleep_by y w s)
      by Awake = anew _
      by (Asleep n) = again _ n
      by Left = c.nowhere w s

  pub record WakesUp : Type 0 where
    pub up : (w : World) (t : TickOrRun) → P w (Op.Tick (TickOp.WakeUp t) ∷ []) (done w [])
    pub slept : (w : World) (n : ℕ) (t : TickOrRun) (old : Option Sleeping) →
        P w (Op.Tick (TickOp.WakeUp t) ∷ []) (gone_awake old w n t)

  pub gets-up : WakesUp → (x : Ticker) (w : World) (t : TickOrRun) →
      P w (Op.Tick (TickOp.WakeUp t) ∷ []) (wake_up_by x w t)
  gets-up c Awake w t = c.up w t
  gets-up c (Asleep n) w t = c.slept w n t (waker_of n w.sleepers.wakers)
  gets-up c Left w t = c.up w t

  pub record Leaves : Type 0 where
    pub up : (w : World) (t : TickOrRun) → P w (Op.Tick (TickOp.Leave t) ∷ []) (leave_sleepers_by Awake w t)
    pub left : (w : World) (t : TickOrRun) → P w (Op.Tick (TickOp.Leave t) ∷ []) (done w [])
    pub slept : (w : World) (n : ℕ) (t : TickOrRun) (old : Option Sleeping) →
        P w (Op.Tick (TickOp.Leave t) ∷ []) (gone_off old w n t)

  pub leaves : Leaves → (x : Ticker) (w : World) (t : TickOrRun) →
      P w (Op.Tick (TickOp.Leave t) ∷ []) (leave_sleepers_by x w t)
  leaves c Awake w t = c.up w t
  leaves c (Asleep n) w t = c.slept w n t (waker_of n w.sleepers.wakers)
  leaves c Left w t = c.left w t
