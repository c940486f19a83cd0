-- How one falls asleep, wakes up or leaves in a store is how it does in the model.
use Rattle.std.proofs.Common.{◌≡◌, ℕ, List, [], ◌∷◌, ◌++◌, length, get_or, set, Bool, true, false, ltb}
use Rattle.std.proofs.Common.{refl, sym, ap, ◌∙◌}
use Rattle.std.specs.Prelude.{Option, Some, None}
use Rattle.std.proofs.lemmas.List.{set-get_or}
use Rattle.executor_parts.specs.Sleepers.{Sleepers, position_of}
use Rattle.executor_model.specs.declared.op.Op.{Op}
use Rattle.executor_model.specs.declared.op.Op.TheVariants as op
use Rattle.executor_model.specs.declared.op.TickOrRun.{TickOrRun}
use Rattle.executor_model.specs.declared.op.TickOrRun.TheVariants as tick_or_run
use Rattle.executor_model.specs.declared.op.SleeperOp.TheVariants as sleeper_op
use Rattle.executor_model.specs.declared.op.Sleeping.{Sleeping}
use Rattle.executor_model.specs.declared.op.TickOp.TheVariants as tick_op
use Rattle.executor_model.specs.ActsOfSleepers as acts
use Rattle.executor_model.specs.World.{World, Ticker, Awake, Asleep, Left, Run, no_run, place_of, runs_with, ticks_with}
use Rattle.executor_core.specs.Ticks.{Flagged, is_asleep}
use Rattle.executor_core.specs.FallingAsleep as falling
use Rattle.executor_core.specs.declared.ticks.flagged_sleepers.FellAsleep.{FellAsleep}
use Rattle.executor_core.specs.declared.ticks.flagged_sleepers.FellAsleep.TheVariants.{Searches, Rests, Nowhere}
use Rattle.executor_core.specs.TicksAndRuns.{where_is}
use Rattle.executor_core.specs.declared.runs.ticks_and_runs.TicksAndRuns.{TicksAndRuns}
use Rattle.executor_core.specs.declared.store.Store.{Store}
use Rattle.executor_core.specs.WakingUp.{passed_on}
use Rattle.executor_core.specs.Views.{world_of}

pub where-is : (s : Store) (who : TickOrRun) → where_is s.ticks_and_runs.ticks s.ticks_and_runs.runs who ≡ place_of (world_of s) who
where-is s (tick_or_run.Tick t) = refl
where-is s (tick_or_run.Run r) = refl

-- one is put to this place, and this becomes of the sleepers
abbrev pub after : World → TickOrRun → Ticker → Flagged → World
after w who k b = record w {
  ticks = ticks_with w.ticks who k;
  runs = runs_with w.runs who k;
  sleepers = b.sleepers;
  notified = b.notified;
}

pub put-down :
    (s : Store) (l : TicksAndRuns) (who : TickOrRun) (k : Ticker) (m : Sleepers Sleeping) (f : Bool)
    → l.ticks ≡ record s.ticks_and_runs.ticks { places = ticks_with s.ticks_and_runs.ticks.places who k }
    → l.runs ≡ record s.ticks_and_runs.runs { runs = runs_with s.ticks_and_runs.runs.runs who k }
    → l.flagged_sleepers.sleepers ≡ m → l.flagged_sleepers.notified ≡ f
    → world_of (record s { ticks_and_runs = l })
    ≡ after (world_of s) who k (record { sleepers = m; notified = f; has_room = false })
put-down s l who k m f t r d e = λ i. record (world_of s) {
  ticks = (t i).places;
  runs = (r i).runs;
  own = (r i).own;
  listed = (r i).listed;
  lock = (r i).lock;
  sleepers = d i;
  notified = e i;
}

run-same : (rs : List Run) (r : ℕ) (k : Ticker) → (get_or rs r no_run).place ≡ k →
    set rs r (record (get_or rs r no_run) { place = k }) ≡ rs
run-same rs r k e =
    ap (λ (p : Ticker). set rs r (record (get_or rs r no_run) { place = p })) (sym e) ∙ set-get_or rs r no_run

module _ (w : World) where
  ticks-same : (who : TickOrRun) (k : Ticker) → place_of w who ≡ k → ticks_with w.ticks who k ≡ w.ticks
  ticks-same (tick_or_run.Tick t) k e = ap (set w.ticks t) (sym e) ∙ set-get_or w.ticks t Left
  ticks-same (tick_or_run.Run r) k e = refl

  runs-same : (who : TickOrRun) (k : Ticker) → place_of w who ≡ k → runs_with w.runs who k ≡ w.runs
  runs-same (tick_or_run.Tick t) k e = refl
  runs-same (tick_or_run.Run r) k e = run-same w.runs r k e

  -- one that is where it was
  stays : (who : TickOrRun) (k : Ticker) (m : Sleepers Sleeping) (f : Bool) → place_of w who ≡ k →
      after w who k (record { sleepers = m; notified = f; has_room = false })
      ≡ record w { sleepers = m; notified = f }
  stays who k m f e = λ i. record w {
    ticks = ticks-same who k e i;
    runs = runs-same who k e i;
    sleepers = m;
    notified = f;
  }

-- the sleepers of the world
abbrev pub flagged : World → Bool → Flagged
flagged w r = record { sleepers = w.sleepers; notified = w.notified; has_room = r }

-- what is left to do where one fell asleep so
abbrev pub fell_asleep_ops : Sleeping → FellAsleep → List Op
fell_asleep_ops x Searches = op.Tick (tick_op.Search x) ∷ []
fell_asleep_ops x (Rests old) = acts.sleeper_goes old ++ acts.pend_as x.who
fell_asleep_ops x Nowhere = op.Sleeper (sleeper_op.CallSleeper x) ∷ acts.pend_as x.who

module _ (w : World) (x : Sleeping) (r : Bool) where
  anew-world :
      (b : Bool) → place_of w x.who ≡ Awake
      → after w x.who (falling.anew b x (flagged w r)).place (falling.anew b x (flagged w r)).flagged ≡ (acts.sleep_anew_by b w x).world
  anew-world true e = refl
  anew-world false e = stays w x.who Awake _ _ e

  told-world :
      (b : Bool) (n : ℕ) → place_of w x.who ≡ Asleep n
      → after w x.who (falling.told_by b n x (flagged w r)).place (falling.told_by b n x (flagged w r)).flagged
      ≡ (acts.sleep_listed_by b w n x).world
  told-world true n e = stays w x.who (Asleep n) _ _ e
  told-world false n e = stays w x.who (Asleep n) _ _ e

  again-world :
      (o : Option ℕ) (n : ℕ) → place_of w x.who ≡ Asleep n
      → after w x.who (falling.again o n x (flagged w r)).place (falling.again o n x (flagged w r)).flagged
      ≡ (acts.sleep_again_by o w n x).world
  again-world (Some at) n e = stays w x.who (Asleep n) _ _ e
  again-world None n e = told-world (ltb (length w.sleepers.wakers) w.sleepers.count) n e

  fallen_asleep-at :
      (k : Ticker) → place_of w x.who ≡ k
      → after w x.who (falling.fall_asleep k x (flagged w r)).place (falling.fall_asleep k x (flagged w r)).flagged
      ≡ (acts.fall_asleep_by k w x).world
  fallen_asleep-at Awake e = anew-world (ltb w.sleepers.count w.sleepers.rooms) e
  fallen_asleep-at (Asleep n) e = again-world (position_of n w.sleepers.wakers) n e
  fallen_asleep-at Left e = stays w x.who Left _ _ e

  pub fallen_asleep-world : (k : Ticker) → k ≡ place_of w x.who →
      after w x.who (falling.fall_asleep k x (flagged w r)).place (falling.fall_asleep k x (flagged w r)).flagged
      ≡ (acts.fall_asleep w x).world
  fallen_asleep-world k e = fallen_asleep-at k (sym e) ∙ ap (λ (p : Ticker). (acts.fall_asleep_by p w x).world) e

  anew-next : (b : Bool) → fell_asleep_ops x (falling.anew b x (flagged w r)).fell_asleep ≡ (acts.sleep_anew_by b w x).next
  anew-next true = refl
  anew-next false = refl

  told-next : (b : Bool) (n : ℕ) → fell_asleep_ops x (falling.told_by b n x (flagged w r)).fell_asleep ≡ (acts.sleep_listed_by b w n x).next
  told-next true n = refl
  told-next false n = refl

  again-next : (o : Option ℕ) (n : ℕ) →
      fell_asleep_ops x (falling.again o n x (flagged w r)).fell_asleep ≡ (acts.sleep_again_by o w n x).next
  again-next (Some at) n = refl
  again-next None n = told-next (ltb (length w.sleepers.wakers) w.sleepers.count) n

  next-at : (k : Ticker) → fell_asleep_ops x (falling.fall_asleep k x (flagged w r)).fell_asleep ≡ (acts.fall_asleep_by k w x).next
  next-at Awake = anew-next (ltb w.sleepers.count w.sleepers.rooms)
  next-at (Asleep n) = again-next (position_of n w.sleepers.wakers) n
  next-at Left = refl

  pub fallen_asleep-next : (k : Ticker) (l : FellAsleep) → k ≡ place_of w x.who → l ≡ (falling.fall_asleep k x (flagged w r)).fell_asleep →
      (acts.fall_asleep w x).next ≡ fell_asleep_ops x l
  fallen_asleep-next k l e q =
      ap (λ (p : Ticker). (acts.fall_asleep_by p w x).next) (sym e) ∙ sym (next-at k) ∙ ap (fell_asleep_ops x) (sym q)

module _ (w : World) (who : TickOrRun) (r : Bool) where
  up-at :
      (k : Ticker) → place_of w who ≡ k
      → after w who (falling.awake_now k) (falling.woke_up k (flagged w r)) ≡ (acts.wake_up_by k w who).world
  up-at Awake e = stays w who Awake _ _ e
  up-at (Asleep n) e = refl
  up-at Left e = stays w who Left _ _ e

  pub up-world : (k : Ticker) → k ≡ place_of w who →
      after w who (falling.awake_now k) (falling.woke_up k (flagged w r)) ≡ (acts.wake_up w who).world
  up-world k e = up-at k (sym e) ∙ ap (λ (p : Ticker). (acts.wake_up_by p w who).world) e

  up-next-at : (k : Ticker) → acts.sleeper_goes (falling.sleeps_with k w.sleepers) ≡ (acts.wake_up_by k w who).next
  up-next-at Awake = refl
  up-next-at (Asleep n) = refl
  up-next-at Left = refl

  pub up-next : (k : Ticker) (o : Option Sleeping) → k ≡ place_of w who → o ≡ falling.sleeps_with k w.sleepers →
      (acts.wake_up w who).next ≡ acts.sleeper_goes o
  up-next k o e q = ap (λ (p : Ticker). (acts.wake_up_by p w who).next) (sym e) ∙ sym (up-next-at k)
      ∙ ap acts.sleeper_goes (sym q)

  left-at :
      (k : Ticker) → place_of w who ≡ k
      → after w who Left (falling.left k (flagged w r)) ≡ (acts.leave_sleepers_by k w who).world
  left-at Awake e = refl
  left-at (Asleep n) e = refl
  left-at Left e = stays w who Left _ _ e

  pub left-world : (k : Ticker) → k ≡ place_of w who →
      after w who Left (falling.left k (flagged w r)) ≡ (acts.leave_sleepers w who).world
  left-world k e = left-at k (sym e) ∙ ap (λ (p : Ticker). (acts.leave_sleepers_by p w who).world) e

  left-next-at : (k : Ticker) → acts.sleeper_goes (falling.sleeps_with k w.sleepers)
      ++ passed_on (is_asleep k) (falling.was_told k w.sleepers) ≡ (acts.leave_sleepers_by k w who).next
  left-next-at Awake = refl
  left-next-at (Asleep n) = refl
  left-next-at Left = refl

  pub left-next : (k : Ticker) (o : Option Sleeping) (l b : Bool) → k ≡ place_of w who →
      o ≡ falling.sleeps_with k w.sleepers → l ≡ is_asleep k → b ≡ falling.was_told k w.sleepers →
      (acts.leave_sleepers w who).next ≡ acts.sleeper_goes o ++ passed_on l b
  left-next k o l b e q slept t = ap (λ (p : Ticker). (acts.leave_sleepers_by p w who).next) (sym e) ∙ sym (left-next-at k)
      ∙ λ i. acts.sleeper_goes (sym q i) ++ passed_on (sym slept i) (sym t i)
