-- For dropped_ticks_and_runs_are_gone.
-- Who is dropped and in no call has left the sleepers, and keeps nothing.
use Rattle.std.proofs.Common.{◌≡◌, ◌∙◌, ◌⊎◌, inl, inr, ⊎_elim, ℕ, zero, suc, ◌≤◌, List, [], ◌∷◌, Bool, true, false, ◌||◌, not, refl}
use Rattle.std.proofs.Common.{sym, ap, arith}
use Rattle.executor_model.specs.Rows.{running_of, ticking_of}
use Rattle.executor_model.specs.SleepersAgree.{sleeps}
use Rattle.executor_model.specs.Standing.{drops_sleeper}
use Rattle.executor_model.specs.Steps.{Machine, lives, run, start}
use Rattle.executor_model.specs.Trace.{Trace, has}
use Rattle.executor_model.specs.Weights.{is_run, is_tick, weigh, weigh_all}
use Rattle.executor_model.specs.World.{Asleep, Awake, Left, Ticker, own_of, run_of, tick_of}
use Rattle.executor_model.proofs.OwnQueues.Using.{emptying-uses, emptying_of}
use Rattle.executor_model.proofs.OwnQueues.UsingWorlds.{is_over_stage, is_past}
use Rattle.executor_model.proofs.Steps.Lists.{weigh_all-below}
use Rattle.executor_laws.proofs.Wakeups.Sitting.{is_it}
use Rattle.executor_laws.proofs.Wakeups.Stands.{drops_of, used_of, waking_up_of}
use Rattle.executor_laws.proofs.Wakeups.StandsMachine.{standing}
use Rattle.executor_laws.proofs.Wakeups.StandsSteps.{Standing}
use Rattle.executor_laws.proofs.Wakeups.StandsTelling.{drops-is, left-has}
use Rattle.executor_laws.proofs.Wakeups.StandsTied.{tied-all}
use Rattle.executor_laws.proofs.Wakeups.Watched.{watched}
use Rattle.call_laws.proofs.Counting.{sees-tick}
use Rattle.call_laws.proofs.Holding.{AllHeld, all-held}
use Rattle.call_laws.proofs.Taking.{not-both}
use Rattle.call_laws.proofs.There.{free-run, unused-is, unused-of}
use Rattle.call_laws.proofs.Types.{Event, Kind, ListOp, Op, RunOp, Section, Step, StealOp, TickOp, TickOrRun, UserOp}
use Rattle.call_laws.specs.DropsTold.{drops_run, drops_tick}
use Rattle.call_laws.specs.DroppedGone.{DroppedIsGone, IsAway}
use Rattle.call_laws.specs.InProgress.{InProgress, IsInMaking, names_run, names_tick}

-- the same event

same-tick : (t : ℕ) (es : Trace) → has (drops_tick t) es ≡ has (drops_sleeper (TickOrRun.Tick t)) es
same-tick t [] = refl
same-tick t (e ∷ es) = λ i. one e i || same-tick t es i
  where
    one : (e : Event) → drops_tick t e ≡ drops_sleeper (TickOrRun.Tick t) e
    one (Event.TickDropped p u) = refl
    one _ = refl

same-run : (r : ℕ) (es : Trace) → has (drops_run r) es ≡ has (drops_sleeper (TickOrRun.Run r)) es
same-run r [] = refl
same-run r (e ∷ es) = λ i. one e i || same-run r es i
  where
    one : (e : Event) → drops_run r e ≡ drops_sleeper (TickOrRun.Run r) e
    one (Event.RunDropped p q) = refl
    one _ = refl

-- what uses it is counted by its row

who-tick : (t : ℕ) (u : TickOrRun) → is_it (TickOrRun.Tick t) u ≤ is_tick t u
who-tick t (TickOrRun.Tick u) = omega arith
who-tick t (TickOrRun.Run q) = omega arith

who-run : (r : ℕ) (u : TickOrRun) → is_it (TickOrRun.Run r) u ≤ is_run r u
who-run r (TickOrRun.Tick u) = omega arith
who-run r (TickOrRun.Run q) = omega arith

tick-less : (t : ℕ) (o : Op) → used_of (TickOrRun.Tick t) o ≤ ticking_of t o
tick-less t (Op.User (UserOp.PollOwn x)) = omega arith
tick-less t (Op.List (ListOp.LockWrite Section.MakeRun)) = omega arith
tick-less t (Op.List (ListOp.Write Section.MakeRun)) = omega arith
tick-less t (Op.Run RunOp.MakeRoom) = omega arith
tick-less t (Op.Tick (TickOp.Search s)) = who-tick t s.who
tick-less t (Op.Tick (TickOp.Look s look)) = who-tick t s.who
tick-less t (Op.Tick (TickOp.CopyWaker s)) = who-tick t s.who
tick-less t (Op.Tick (TickOp.FallAsleep s)) = who-tick t s.who
tick-less t _ = omega arith

run-less : (r : ℕ) (o : Op) → used_of (TickOrRun.Run r) o ≤ running_of r o
run-less r (Op.User (UserOp.PollOwn x)) = omega arith
run-less r (Op.List (ListOp.LockWrite Section.MakeRun)) = omega arith
run-less r (Op.List (ListOp.Write Section.MakeRun)) = omega arith
run-less r (Op.Run RunOp.MakeRoom) = omega arith
run-less r (Op.Steal (StealOp.Length s)) = omega arith
run-less r (Op.Steal (StealOp.OwnLength s n)) = omega arith
run-less r (Op.Steal (StealOp.Take s more)) = omega arith
run-less r (Op.Steal (StealOp.Put s more f)) = omega arith
run-less r (Op.Tick (TickOp.Search s)) = who-run r s.who
run-less r (Op.Tick (TickOp.Look s look)) = who-run r s.who
run-less r (Op.Tick (TickOp.CopyWaker s)) = who-run r s.who
run-less r (Op.Tick (TickOp.FallAsleep s)) = who-run r s.who
run-less r _ = omega arith

dead-tick : (x : Ticker) → lives x ≡ false → x ≡ Left
dead-tick Awake e = absurd (cc)
dead-tick (Asleep n) e = absurd (cc)
dead-tick Left e = refl

dead-run : (b : Bool) → not b ≡ false → b ≡ true
dead-run true e = refl
dead-run false e = absurd (cc)

drops-few : (t : TickOrRun) (o : Op) → drops_of t o ≤ waking_up_of t o
drops-few t (Op.Tick (TickOp.Leave (TickOrRun.Tick u))) = omega arith
drops-few t (Op.Tick (TickOp.Leave (TickOrRun.Run q))) = omega arith
drops-few t _ = omega arith

drops-run : (r : ℕ) (o : Op) → drops_of (TickOrRun.Run r) o ≡ 0
drops-run r (Op.Tick (TickOp.Leave (TickOrRun.Tick u))) = refl
drops-run r (Op.Tick (TickOp.Leave (TickOrRun.Run q))) = refl
drops-run r _ = refl

none-drop : (r : ℕ) (ss : List (List Op)) → weigh_all (drops_of (TickOrRun.Run r)) ss ≤ weigh_all (λ (o : Op). 0) ss
none-drop r ss = weigh_all-below (drops_of (TickOrRun.Run r)) (λ (o : Op). 0) (λ o. omega (arith, drops-run r o)) ss

nothing : (ss : List (List Op)) → weigh_all (λ (o : Op). 0) ss ≡ 0
nothing [] = refl
nothing (s ∷ ss) = omega (arith, zeros s, nothing ss)
  where
    zeros : (os : List Op) → weigh (λ (o : Op). 0) os ≡ 0
    zeros [] = refl
    zeros (o ∷ os) = omega (arith, zeros os)

module _ (s : Machine) (st : Standing s) (a : AllHeld s) where
  left : (t : TickOrRun) → has (drops_sleeper t) s.world.trace ≡ true → (watched t s.world.trace).left ≡ true
  left t e = left-has t s.world.trace ∙ (sym (drops-is t s.world.trace) ∙ e)

  -- in no call, it isn't about to leave
  none-leaves : (t : TickOrRun) → weigh_all (used_of t) s.parties ≡ 0 → weigh_all (drops_of t) s.parties ≡ 0
  none-leaves t z = by (weigh_all (waking_up_of t) s.parties) refl
    where
      by : (n : ℕ) → weigh_all (waking_up_of t) s.parties ≡ n → weigh_all (drops_of t) s.parties ≡ 0
      by zero e = omega (arith, e, weigh_all-below (drops_of t) (waking_up_of t) (drops-few t) s.parties)
      by (suc n) e = absurd (omega (arith, z, tied-all t s.parties (st.tied t) (omega (arith, e))))

  gone-tick : (t : ℕ) → has (drops_tick t) s.world.trace ≡ true → ¬ InProgress (λ b. names_tick t b.call) s.world.trace →
      tick_of s.world t ≡ Left
  gone-tick t e n =
      let who : TickOrRun = TickOrRun.Tick t in
      let z : weigh_all (ticking_of t) s.parties ≡ 0 = unused-is (weigh_all (ticking_of t) s.parties)
      (unused-of s a (ticking_of t) (λ b. names_tick t b.call) (sees-tick t) n) in
      let u : weigh_all (used_of who) s.parties ≡ 0 =
      omega (arith, z, weigh_all-below (used_of who) (ticking_of t) (tick-less t) s.parties) in
      ⊎_elim
      (λ (x : 1 ≤ weigh_all (drops_of who) s.parties). absurd (omega (arith, x, none-leaves who u)))
      (λ (x : lives (tick_of s.world t) ≡ false). dead-tick (tick_of s.world t) x)
      ((st.stands who).dropped (left who (sym (same-tick t s.world.trace) ∙ e)))

  gone-run : (r : ℕ) → has (drops_run r) s.world.trace ≡ true → (run_of s.world r).dropped ≡ true
  gone-run r e = let who : TickOrRun = TickOrRun.Run r in ⊎_elim
      (λ (x : 1 ≤ weigh_all (drops_of who) s.parties). absurd (omega (arith, x, none-drop r s.parties, nothing s.parties)))
      (λ (x : not (run_of s.world r).dropped ≡ false). dead-run (run_of s.world r).dropped x)
      ((st.stands who).dropped (left who (sym (same-run r s.world.trace) ∙ e)))

  away-run : (r : ℕ) → has (drops_run r) s.world.trace ≡ true → ¬ IsInMaking r s →
      ¬ InProgress (λ b. names_run r b.call) s.world.trace → IsAway r s
  away-run r e m n =
      let who : TickOrRun = TickOrRun.Run r in
      let d : (run_of s.world r).dropped ≡ true = gone-run r e in
      let z : weigh_all (running_of r) s.parties ≡ 0 =
      unused-is (weigh_all (running_of r) s.parties) (free-run s a r m n) in
      let u : weigh_all (used_of who) s.parties ≡ 0 =
      omega (arith, z, weigh_all-below (used_of who) (running_of r) (run-less r) s.parties) in
      let past : is_past (run_of s.world r) ≡ true = (λ i. d i || is_over_stage (run_of s.world r).stage) in
      record { awake = awake who d u (sleeps (run_of s.world r).place) refl; empty = empty r z past }
    where
      no-life : (run_of s.world r).dropped ≡ true → not (run_of s.world r).dropped ≡ true → ⊥
      no-life d l = not-both (not (run_of s.world r).dropped) l (ap not d)

      awake : (who : TickOrRun) → (run_of s.world r).dropped ≡ true → weigh_all (used_of (TickOrRun.Run r)) s.parties ≡ 0 →
          (k : ℕ) → sleeps (run_of s.world r).place ≡ k → sleeps (run_of s.world r).place ≡ 0
      awake who d u zero i = i
      awake who d u (suc k) i =
          let h = st.stands (TickOrRun.Run r) in
          let w = watched (TickOrRun.Run r) s.world.trace in
          absurd (⊎_elim
          (λ (x : w.pending ≡ true). no-life d (h.alive (inl x)))
          (λ (x : (w.refused ≡ true) ⊎ (1 ≤ weigh_all (used_of (TickOrRun.Run r)) s.parties)). ⊎_elim
          (λ (y : w.refused ≡ true). no-life d (h.alive (inr (inl y))))
          (λ (y : 1 ≤ weigh_all (used_of (TickOrRun.Run r)) s.parties). absurd (omega (arith, y, u))) x)
          (h.asleep (omega (arith, i))))

      empty : (r : ℕ) → weigh_all (running_of r) s.parties ≡ 0 → is_past (run_of s.world r) ≡ true → own_of s.world r ≡ []
      empty r z past = ⊎_elim (λ (x : own_of s.world r ≡ []). x)
          (λ (x : 1 ≤ weigh_all (emptying_of r) s.parties).
          absurd (omega (arith, x, z, weigh_all-below (emptying_of r) (running_of r) (emptying-uses r) s.parties)))
          ((st.used r).emptied past)

pub dropped-gone : (limit : ℕ) (kind : Kind) (n : ℕ) (ts : List Step) → DroppedIsGone (run ts (start limit kind n))
dropped-gone limit kind n ts =
    let s : Machine = run ts (start limit kind n) in
    let st : Standing s = standing limit kind n ts in
    let a : AllHeld s = all-held limit kind n ts in
    record { tick = gone-tick s st a; run = gone-run s st a; away = away-run s st a }
