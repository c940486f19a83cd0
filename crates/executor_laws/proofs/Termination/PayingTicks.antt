-- For calls_end and lone_calls_end.
-- What ticks and runs both do pays a step of those that remain, or one of a walk.
use Rattle.std.proofs.Common.{◌≡◌, ℕ, ◌≤◌, List, [], ◌∷◌, Bool, true, false, refl, ap, arith}
use Rattle.std.specs.Prelude.{Option, Some, None, is_none}
use Rattle.executor_parts.specs.Sleepers.{waker_at, waker_of}
use Rattle.executor_laws.proofs.Types.{Look, First, Second, Op, TickOrRun, Sleeping, TickOp, Waker, Task, Outside, Hint}
use Rattle.executor_model.specs.ActsOfSleepers.{make_tick_by, look_tick_by, copy_sleeper_by, pend_as, sleep_anew_by}
use Rattle.executor_model.specs.ActsOfSleepers.{sleeper_goes, sleep_listed_by, sleep_again_by, fall_asleep_by, wake_up_by}
use Rattle.executor_model.specs.ActsOfSleepers.{tell_and_return, leave_sleepers_by}
use Rattle.executor_model.specs.Acts.{is_copy_refused, waker_goes, mark_in}
use Rattle.executor_model.specs.World.{World, Ticker, Awake, Asleep, Left, Done, place_of, queue_of}
use Rattle.executor_model.specs.{Doing.search_by_who, Doing.tick_act, Good.IsKnownWaker, Good.TickNeeds, Weights.weigh}
use Rattle.executor_laws.specs.Costs.{left_by, steps_of_copy, steps_of_sleeping, steps_of_search, walk_of}
use Rattle.executor_model.proofs.OwnQueues.RunsMoving.{is_search, slumbering-blind}
use Rattle.executor_model.proofs.{Steps.Lists.weigh-append, Steps.SleepersNext.Blind, Steps.SleepersNext.search-blind}
use Rattle.executor_laws.proofs.Termination.SpendingTicks.{spends-tick_turn, kept-copy_sleeper, spends-leave_sleepers}
use Rattle.executor_laws.proofs.Termination.SpendingTicks.{spends-sleep, spends-make, spends-search, spends-up}
use Rattle.executor_laws.proofs.Termination.SpendingRuns.{CanPay, Pays, pays-own}
use Rattle.executor_laws.proofs.Termination.SpendingRuns.Pays.{spends, walks}

blind-left : (v : World) → Blind (left_by v)
blind-left v = record {
  tick = λ o. refl;
  exchange = refl;
  returns = refl;
  call = λ s. refl;
  release = λ f. refl;
  end = λ a who. refl;
  made = λ a. refl;
}

-- nothing of it is left to schedule
unleft-tick : (p : ℕ) (h : Hint) (o : TickOp) (w : World) → is_search o ≡ false →
    weigh (left_by (tick_act p h o w).world) (tick_act p h o w).next ≡ 0
unleft-tick p h o w e =
    slumbering-blind (left_by (tick_act p h o w).world) (blind-left (tick_act p h o w).world) p h o w e

-- the steps on the way to a walk

walk-goes : (a : Waker) → weigh walk_of (waker_goes a) ≡ 0
walk-goes (Task g) = refl
walk-goes (Outside x) = refl

walk-goes_of : (o : Option Sleeping) → weigh walk_of (sleeper_goes o) ≡ 0
walk-goes_of None = refl
walk-goes_of (Some s) = walk-goes s.waker

walk-make : (b : Bool) (w : World) → weigh walk_of (make_tick_by b w).next ≤ 4
walk-make true w = omega arith
walk-make false w = omega arith

walk-search : (look : Look) (x : Ticker) (w : World) (q : List ℕ) (s : Sleeping) → weigh walk_of (look_tick_by x w look q s).next ≤ 4
walk-search (First mark) x w [] s = omega arith
walk-search (Second mark) x w [] s = omega arith
walk-search look Awake w (f ∷ rest) s = omega arith
walk-search look (Asleep n) w (f ∷ rest) s = omega arith
walk-search look Left w (f ∷ rest) s = omega arith

walk-anew : (b : Bool) (w : World) (s : Sleeping) → weigh walk_of (sleep_anew_by b w s).next ≤ 4
walk-anew true w s = omega arith
walk-anew false w s = omega arith

walk-listed : (b : Bool) (w : World) (n : ℕ) (s : Sleeping) → weigh walk_of (sleep_listed_by b w n s).next ≤ 4
walk-listed true w n s = omega arith
walk-listed false w n s = omega arith

walk-again : (o : Option ℕ) (w : World) (n : ℕ) (s : Sleeping) → weigh walk_of (sleep_again_by o w n s).next ≤ 4
walk-again None w n s = walk-listed _ w n s
walk-again (Some at) w n s = let old = waker_at (Some at) w.sleepers.wakers in
    omega (arith, weigh-append walk_of (sleeper_goes old) (pend_as s.who), walk-goes_of old)

walk-sleep : (x : Ticker) (w : World) (s : Sleeping) → weigh walk_of (fall_asleep_by x w s).next ≤ 4
walk-sleep Awake w s = walk-anew _ w s
walk-sleep (Asleep n) w s = walk-again _ w n s
walk-sleep Left w s = omega arith

walk-up : (x : Ticker) (w : World) (who : TickOrRun) → weigh walk_of (wake_up_by x w who).next ≤ 4
walk-up Awake w who = omega arith
walk-up (Asleep n) w who = omega (arith, walk-goes_of (waker_of n w.sleepers.wakers))
walk-up Left w who = omega arith

walk-tell : (b : Bool) → weigh walk_of (tell_and_return b) ≡ 0
walk-tell true = refl
walk-tell false = refl

walk-leave : (x : Ticker) (w : World) (who : TickOrRun) → weigh walk_of (leave_sleepers_by x w who).next ≤ 4
walk-leave Awake w who = omega arith
walk-leave (Asleep n) w who =
    let old = waker_of n w.sleepers.wakers in
    omega (
      arith,
      weigh-append walk_of (sleeper_goes old) (tell_and_return (is_none old)),
      walk-goes_of old,
      walk-tell (is_none old),
    )
walk-leave Left w who = omega arith

-- a search, and a copy of a waker

pays-search : (who : TickOrRun) (p : ℕ) (w : World) (s : Sleeping) → s.who ≡ who → CanPay w (Op.Tick (TickOp.Search s)) →
    Pays w (Op.Tick (TickOp.Search s)) (search_by_who who p w s)
pays-search (TickOrRun.Tick t) p w s i c =
    spends (omega (arith, ap steps_of_search i, ap steps_of_copy i, spends-tick_turn p w s)) (omega arith)
pays-search (TickOrRun.Run r) p w s i c = pays-own _ w s r i c

pays-look : (look : Look) (q : List ℕ) (x : Ticker) (w : World) (s : Sleeping) → (queue_of w (mark_in look)).items ≡ q →
    Pays w (Op.Tick (TickOp.Look s look)) (look_tick_by x w look q s)
pays-look look q x w s e =
    let d : Done = look_tick_by x w look q s in
    spends (omega (
      arith,
      spends-search look x w q s e,
      search-blind (left_by d.world) (blind-left d.world) look (λ f. refl) x w q s,
    ))
    (omega (arith, walk-search look x w q s))

pays-copy : (b : Bool) (who : TickOrRun) (w : World) (s : Sleeping) → s.who ≡ who → IsKnownWaker w s.waker →
    Pays w (Op.Tick (TickOp.CopyWaker s)) (copy_sleeper_by b w s)
pays-copy true (TickOrRun.Tick t) w s i l = spends (omega (arith, ap steps_of_copy i)) (omega arith)
pays-copy true (TickOrRun.Run r) w s i l = spends (omega (arith, ap steps_of_copy i)) (omega arith)
pays-copy false (TickOrRun.Tick t) w s i l =
    spends (omega (arith, ap steps_of_copy i, ap steps_of_sleeping i, kept-copy_sleeper false w s l)) (omega arith)
pays-copy false (TickOrRun.Run r) w s i l =
    walks (omega (arith, ap steps_of_copy i, ap steps_of_sleeping i, kept-copy_sleeper false w s l)) (omega arith)

pub pays-tick : (p : ℕ) (h : Hint) (o : TickOp) (w : World) → TickNeeds w o → CanPay w (Op.Tick o) →
    Pays w (Op.Tick o) (tick_act p h o w)
pays-tick p h TickOp.MakeTick w l c =
    spends (omega (arith, spends-make h.refused w, unleft-tick p h TickOp.MakeTick w refl))
    (omega (arith, walk-make h.refused w))
pays-tick p h (TickOp.Search s) w l c = pays-search s.who p w s refl c
pays-tick p h (TickOp.Look s look) w l c = pays-look look _ (place_of w s.who) w s refl
pays-tick p h (TickOp.CopyWaker s) w l c = pays-copy (is_copy_refused h w s.waker) s.who w s refl l
pays-tick p h (TickOp.FallAsleep s) w l c =
    spends (omega (arith, spends-sleep (place_of w s.who) w s refl, unleft-tick p h (TickOp.FallAsleep s) w refl))
    (omega (arith, walk-sleep (place_of w s.who) w s))
pays-tick p h (TickOp.WakeUp who) w l c =
    spends (omega (arith, spends-up (place_of w who) w who, unleft-tick p h (TickOp.WakeUp who) w refl))
    (omega (arith, walk-up (place_of w who) w who))
pays-tick p h (TickOp.Leave who) w l c =
    spends (omega (arith, spends-leave_sleepers (place_of w who) w who, unleft-tick p h (TickOp.Leave who) w refl))
    (omega (arith, walk-leave (place_of w who) w who))
