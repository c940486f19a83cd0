-- For own_queues_agree and awaiters_are_kept.
-- What uses no run changes neither which runs were dropped or are ready, nor what stands in their own queues.
use Rattle.std.proofs.Common.{◌≡◌, ℕ, zero, suc, List, [], ◌∷◌, length, set, get_or, Bool, true, false, ◌||◌, refl, sym, ap}
use Rattle.std.proofs.Common.{◌∙◌}
use Rattle.executor_model.proofs.Types.{Look, Hold, Op, Sleeping, TickOp, UserOp, Hint}
use Rattle.executor_model.specs.Doing.{act, tick_act}
use Rattle.executor_model.specs.World.{World, Ticker, Run, Stage, New, Listed, Ended, no_run, run_of}
use Rattle.executor_model.proofs.OwnQueues.RunsAside.{Coat, apart-act, coat, drops, stages}
use Rattle.executor_model.proofs.OwnQueues.RunsMoving.{coat-copy, coat-sleep, coat-search, coat-tick}
use Rattle.executor_model.proofs.OwnQueues.Using.{is_for_runs}
use Rattle.executor_model.specs.Acts as acts
use Rattle.executor_model.specs.ActsOfSleepers as of_sleepers

abbrev pub is_over_stage : Stage → Bool
is_over_stage New = false
is_over_stage Listed = false
is_over_stage Ended = true

-- no call polls its own future any more
abbrev pub is_past : Run → Bool
is_past x = x.dropped || is_over_stage x.stage

pub record Idle (w v : World) : Type 0 where
  pub own : v.own ≡ w.own
  pub past : (r : ℕ) → is_past (run_of v r) ≡ is_past (run_of w r)
  pub count : length v.runs ≡ length w.runs
  pub gone : v.gone ≡ w.gone

pub past-set : (rs : List Run) (q : ℕ) (y : Run) → is_past y ≡ is_past (get_or rs q no_run) → (r : ℕ) →
    is_past (get_or (set rs q y) r no_run) ≡ is_past (get_or rs r no_run)
past-set [] q y e r = refl
past-set (x ∷ rs) zero y e zero = e
past-set (x ∷ rs) zero y e (suc r) = refl
past-set (x ∷ rs) (suc q) y e zero = refl
past-set (x ∷ rs) (suc q) y e (suc r) = past-set rs q y e r

pub count-set : (rs : List Run) (q : ℕ) (y : Run) → length (set rs q y) ≡ length rs
count-set [] q y = refl
count-set (x ∷ rs) zero y = refl
count-set (x ∷ rs) (suc q) y = ap (λ (n : ℕ). suc n) (count-set rs q y)

pub idle : (w v : World) → v.own ≡ w.own → v.runs ≡ w.runs → v.gone ≡ w.gone → Idle w v
idle w v o e g = record {
  own = o;
  past = λ r. ap (λ (rs : List Run). is_past (get_or rs r no_run)) e;
  count = ap (λ (rs : List Run). length rs) e;
  gone = g;
}

past-at : (rs : List Run) (r : ℕ) →
    (get_or (drops rs) r true || is_over_stage (get_or (stages rs) r Ended)) ≡ is_past (get_or rs r no_run)
past-at [] r = refl
past-at (x ∷ rs) zero = refl
past-at (x ∷ rs) (suc r) = past-at rs r

count-at : (rs : List Run) → length (stages rs) ≡ length rs
count-at [] = refl
count-at (x ∷ rs) = ap (λ (n : ℕ). suc n) (count-at rs)

-- what changes nothing of the runs' coat changes nothing of this
pub idle-coat : (w v : World) → coat w ≡ coat v → Idle w v
idle-coat w v e = record {
  own = ap (λ (c : Coat). c.hull.own) (sym e);
  past = λ r. sym (past-at v.runs r)
      ∙ (ap (λ (c : Coat). get_or c.drops r true || is_over_stage (get_or c.hull.stages r Ended)) (sym e)
      ∙ past-at w.runs r);
  count = sym (count-at v.runs) ∙ (ap (λ (c : Coat). length c.hull.stages) (sym e) ∙ count-at w.runs);
  gone = ap (λ (c : Coat). c.gone) (sym e);
}

pub idle-copy : (b : Bool) (w : World) (f : ℕ) (held : Hold) → Idle w (acts.copy_by b w f held).world
idle-copy true w f held = idle w _ refl refl refl
idle-copy false w f held = idle w _ refl refl refl

pub idle-sleep : (x : Ticker) (w : World) (s : Sleeping) → Idle w (of_sleepers.fall_asleep_by x w s).world
idle-sleep x w s = idle-coat w (of_sleepers.fall_asleep_by x w s).world (coat-sleep x w s)

pub idle-copy_sleeper : (b : Bool) (w : World) (s : Sleeping) → Idle w (of_sleepers.copy_sleeper_by b w s).world
idle-copy_sleeper b w s = idle-coat w (of_sleepers.copy_sleeper_by b w s).world (coat-copy b w s)

pub idle-search : (look : Look) (x : Ticker) (w : World) (q : List ℕ) (s : Sleeping) → Idle w (of_sleepers.look_tick_by x w look q s).world
idle-search look x w q s = idle-coat w (of_sleepers.look_tick_by x w look q s).world (coat-search look x q w s)

pub idle-act : (p : ℕ) (h : Hint) (o : Op) (w : World) → is_for_runs o ≡ false → Idle w (act p h o w).world
idle-act p h (Op.User (UserOp.PollOwn x)) w n = absurd (cc)
idle-act p h (Op.Tick (TickOp.Search s)) w n = absurd (cc)
idle-act p h (Op.Tick (TickOp.Look s look)) w n = absurd (cc)
idle-act p h (Op.Tick o) w n = idle-coat w (tick_act p h o w).world (coat-tick p h o w refl)
idle-act p h (Op.List o) w n = absurd (cc)
idle-act p h (Op.Steal o) w n = absurd (cc)
idle-act p h (Op.Run o) w n = absurd (cc)
idle-act p h o w n = idle-coat w (act p h o w).world (apart-act p h o w refl).coat
