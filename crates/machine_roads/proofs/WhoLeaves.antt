-- Who leaves the sleepers, or schedules what is left before it does: what is done leads to no other.
use Rattle.std.proofs.Common.{◌≡◌, ℕ, ◌≤◌, List, [], ◌∷◌}
use Rattle.std.proofs.Common.{Bool, true, false, refl, arith}
use Rattle.std.specs.Prelude.{Option, Some, None, is_none}
use Rattle.executor_parts.specs.Sleepers.{waker_at, waker_of}
use Rattle.executor_laws.proofs.Types.{Event, First, Hint, Hold, Look, Move, Op, Outside, Reply, RunOp}
use Rattle.executor_laws.proofs.Types.{Polled, RunPoll, Second, Sleeping, Task, TickOp, TickOrRun, UserOp, Waker}
use Rattle.executor_model.specs.{Acts.followed, Acts.is_copy_refused, Acts.mark_in, Acts.move_task}
use Rattle.executor_model.specs.{Doing.act, Doing.run_act, Doing.search_by_who, Doing.tick_act}
use Rattle.executor_model.specs.{Weights.same, Weights.weigh}
use Rattle.executor_model.specs.ActsOfSleepers.{copy_sleeper_by, fall_asleep_by, leave_sleepers_by, look_tick_by}
use Rattle.executor_model.specs.ActsOfSleepers.{make_tick_by, pend_as, sleep_again_by, sleep_anew_by, sleep_listed_by}
use Rattle.executor_model.specs.ActsOfSleepers.{sleeper_goes, tell_and_return, wake_up_by}
use Rattle.executor_model.specs.ActsOfRuns as runs
use Rattle.executor_model.specs.World.{Asleep, Awake, Left, Ticker, World, log}
use Rattle.executor_model.specs.World.{own_of, queue_of}
use Rattle.executor_model.proofs.OwnQueues.RunsAside.{apart-act, is_run, runs_of}
use Rattle.executor_model.proofs.Steps.Lift.{no_hint}
use Rattle.executor_model.proofs.Steps.Lists.{same_is, weigh-append, weigh-below}
use Rattle.executor_model.proofs.Steps.RunsNext.{BlindToSearches, common-unseen, look-unseen, own-unseen, steal-unseen}
use Rattle.executor_model.proofs.Steps.SleepersNext.{goes-unseen, tell-unseen}

-- it leaves the sleepers, or schedules what is left before it does
abbrev pub leaving_of : ℕ → Op → ℕ
leaving_of r (Op.Tick (TickOp.Leave (TickOrRun.Run q))) = same r q
leaving_of r (Op.Run (RunOp.Reschedule q a)) = same r q
leaving_of r _ = 0

abbrev pub is_list : Op → Bool
is_list (Op.List o) = true
is_list _ = false

module _ (r : ℕ) where
  abbrev v : Op → ℕ
  v = leaving_of r

  pub blind : BlindToSearches v
  blind = record {
    exchange = refl;
    search = λ s. refl;
    copy = λ s. refl;
    up = λ who. refl;
    take_up = λ f. refl;
    steal = λ o. refl;
    lock = λ x. refl;
    unlock = refl;
    turn = λ x. refl;
    common = λ x look. refl;
    look = λ x at left. refl;
    wake = λ x. refl;
  }

  few_runs : (o : Op) → v o ≤ runs_of o
  few_runs (Op.Tick (TickOp.Leave (TickOrRun.Run q))) = grind (arith, same_is)
  few_runs (Op.Run (RunOp.Reschedule q a)) = grind (arith, same_is)
  few_runs _ = omega arith

  none_apart : (p : ℕ) (h : Hint) (o : Op) (w : World) → is_run o ≡ false → weigh v (act p h o w).next ≡ 0
  none_apart p h o w e = omega (arith, (apart-act p h o w e).runs, weigh-below v runs_of few_runs (act p h o w).next)

  none_wake : (p : ℕ) (w : World) (x : RunPoll) → weigh v (runs.wake_own p w x).next ≡ 0
  none_wake p w x = by x.waker
    where
      u : World
      u = log w (Event.WakerCalled p (Polled.Run x.run) x.poll x.waker)

      end : List Op
      end = Op.End Reply.Pending (Hold.Run x.run) ∷ []

      by : (a : Waker) → weigh v (followed (runs.call_by_reference p u a) end).next ≡ 0
      by (Task g) =
          let next = (move_task Move.WakeByReference p u g).next in
          omega (arith, weigh-append v next end, none_apart p no_hint (Op.Move Move.WakeByReference g) u refl)
      by (Outside y) = refl

  few_run : (p : ℕ) (h : Hint) (o : RunOp) (w : World) → weigh v (run_act p h o w).next ≤ weigh v (Op.Run o ∷ [])
  few_run p h RunOp.MakeRoom w = by h.refused
    where
      by : (b : Bool) → weigh v (runs.make_room_by b w).next ≤ 0
      by true = omega arith
      by false = omega arith
  few_run p h RunOp.ReturnRoom w = omega arith
  few_run p h (RunOp.TakeTurn x) w = omega arith
  few_run p h (RunOp.SearchCommon x look) w = omega (arith, common-unseen v blind look (queue_of w (mark_in look)).items w x)
  few_run p h (RunOp.LookOwn x at left) w = omega (arith, look-unseen v blind (own_of w x.run) w x at left)
  few_run p h (RunOp.WakeOwn x) w = omega (arith, none_wake p w x)
  few_run p h (RunOp.Reschedule q a) w = by (own_of w q)
    where
      by : (fs : List ℕ) → weigh v (runs.reschedule_by fs w q a).next ≤ weigh v (Op.Run (RunOp.Reschedule q a) ∷ [])
      by [] = omega arith
      by (f ∷ rest) = omega arith

  pub none_goes : (o : Option Sleeping) → weigh v (sleeper_goes o) ≡ 0
  none_goes o = goes-unseen v (λ f. refl) o

  none_look : (look : Look) (x : Ticker) (q : List ℕ) (w : World) (s : Sleeping) → weigh v (look_tick_by x w look q s).next ≡ 0
  none_look (First mark) x [] w s = refl
  none_look (Second mark) x [] w s = refl
  none_look look Awake (f ∷ rest) w s = refl
  none_look look (Asleep n) (f ∷ rest) w s = refl
  none_look look Left (f ∷ rest) w s = refl

  none_sleep : (x : Ticker) (w : World) (s : Sleeping) → weigh v (fall_asleep_by x w s).next ≡ 0
  none_sleep Awake w s = by _
    where
      by : (b : Bool) → weigh v (sleep_anew_by b w s).next ≡ 0
      by true = refl
      by false = refl
  none_sleep (Asleep n) w s = by _
    where
      listed-by : (b : Bool) → weigh v (sleep_listed_by b w n s).next ≡ 0
      listed-by true = refl
      listed-by false = refl

      by : (o : Option ℕ) → weigh v (sleep_again_by o w n s).next ≡ 0
      by None = listed-by _
      by (Some at) =
          let old = waker_at (Some at) w.sleepers.wakers in omega (arith, weigh-append v (sleeper_goes old) (pend_as s.who), none_goes old)
  none_sleep Left w s = refl

  none_up : (x : Ticker) (w : World) (t : TickOrRun) → weigh v (wake_up_by x w t).next ≡ 0
  none_up Awake w t = refl
  none_up (Asleep n) w t = none_goes (waker_of n w.sleepers.wakers)
  none_up Left w t = refl

  pub none_leave : (x : Ticker) (w : World) (t : TickOrRun) → weigh v (leave_sleepers_by x w t).next ≡ 0
  none_leave Awake w t = refl
  none_leave (Asleep n) w t =
      let old = waker_of n w.sleepers.wakers in
      omega (
        arith,
        weigh-append v (sleeper_goes old) (tell_and_return (is_none old)),
        none_goes old,
        tell-unseen v refl refl (is_none old),
      )
  none_leave Left w t = refl

  none_search : (who : TickOrRun) (p : ℕ) (w : World) (s : Sleeping) → weigh v (search_by_who who p w s).next ≡ 0
  none_search (TickOrRun.Tick t) p w s = refl
  none_search (TickOrRun.Run q) p w s = own-unseen v blind _ w _

  pub none_tick : (p : ℕ) (h : Hint) (o : TickOp) (w : World) → weigh v (tick_act p h o w).next ≡ 0
  none_tick p h TickOp.MakeTick w = by h.refused
    where
      by : (b : Bool) → weigh v (make_tick_by b w).next ≡ 0
      by true = refl
      by false = refl
  none_tick p h (TickOp.Search s) w = none_search s.who p w s
  none_tick p h (TickOp.Look s look) w = none_look look _ _ w s
  none_tick p h (TickOp.CopyWaker s) w = by (is_copy_refused h w s.waker)
    where
      by : (b : Bool) → weigh v (copy_sleeper_by b w s).next ≡ 0
      by true = refl
      by false = refl
  none_tick p h (TickOp.FallAsleep s) w = none_sleep _ w s
  none_tick p h (TickOp.WakeUp t) w = none_up _ w t
  none_tick p h (TickOp.Leave t) w = none_leave _ w t

  pub few_by : (b : Bool) (p : ℕ) (h : Hint) (o : Op) (w : World) → is_run o ≡ b → is_list o ≡ false
      → weigh v (act p h o w).next ≤ weigh v (o ∷ [])
  few_by false p h o w e n = omega (arith, none_apart p h o w e)
  few_by true p h (Op.User (UserOp.PollOwn x)) w e n = omega arith
  few_by true p h (Op.Tick o) w e n = omega (arith, none_tick p h o w)
  few_by true p h (Op.List o) w e n = absurd cc
  few_by true p h (Op.Steal o) w e n = omega (arith, steal-unseen v blind (λ f. refl) p o w)
  few_by true p h (Op.Run o) w e n = few_run p h o w
  few_by true p h _ w e n = absurd cc
