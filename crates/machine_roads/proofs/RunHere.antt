-- What holds of runs in a machine where one party alone stands in calls one inside another.
use Rattle.std.proofs.Common.{◌≡◌, ℕ, ◌<◌, ◌≤◌, ◌==◌, ◌||◌, Bool, true, false, List, [], ◌∷◌, length, ⊎_elim}
use Rattle.std.proofs.Common.{get_or, get_or-set_same, get_or-set_other, set, refl, sym, ap, subst, ◌∙◌, arith}
use Rattle.std.specs.Prelude.{reverse}
use Rattle.std.proofs.lemmas.Bool.Decides.{nat_tests}
use Rattle.executor_model.specs.declared.op.Hold.{Hold}
use Rattle.executor_model.specs.declared.op.Hold.TheVariants as hold
use Rattle.executor_model.specs.declared.op.ListOp.TheVariants as list_op
use Rattle.executor_model.specs.declared.op.Op.{Op}
use Rattle.executor_model.specs.declared.op.Op.TheVariants as op
use Rattle.executor_model.specs.declared.op.RunOp.TheVariants as run_op
use Rattle.executor_model.specs.declared.op.Section.TheVariants as section
use Rattle.executor_model.specs.declared.op.StealOp.TheVariants as steal_op
use Rattle.executor_model.specs.declared.op.TickOp.TheVariants as tick_op
use Rattle.executor_model.specs.declared.op.TickOrRun.{TickOrRun}
use Rattle.executor_model.specs.declared.op.TickOrRun.TheVariants as tick_or_run
use Rattle.executor_model.specs.declared.op.UserOp.TheVariants as user_op
use Rattle.executor_model.specs.declared.op.Waker.{Waker}
use Rattle.executor_model.specs.Rows.{running_of}
use Rattle.executor_model.specs.Steps.{Machine, stack}
use Rattle.executor_model.specs.Weights.{holds_run, is_run, same, weigh, weigh_all}
use Rattle.executor_model.specs.SleepersAgree.{sleeps}
use Rattle.executor_model.specs.World.{Ended, Listed, New, Stage, World, no_run, own_of, run_of}
use Rattle.executor_model.proofs.OwnQueues.Using.{emptying_of, polling_of}
use Rattle.executor_model.proofs.OwnQueues.UsingWorlds.{is_over_stage, is_past}
use Rattle.executor_model.proofs.Quiet.Resting.{all-rest}
use Rattle.executor_model.proofs.Steps.Lists.{same_is}
use Rattle.executor_model.proofs.Steps.Reached.{Reached}
use Rattle.executor_laws.proofs.Termination.LoneEnds.{OthersRest}
use Rattle.executor_laws.proofs.Wakeups.Sitting.{holds_it, is_it}
use Rattle.executor_laws.proofs.Wakeups.Stands.{used_of}
use Rattle.executor_laws.proofs.Wakeups.StandsMachine.{standing}
use Rattle.executor_laws.proofs.Wakeups.StandsSteps.{Standing}
use Rattle.executor_laws.proofs.Walks.Enrolled.{Enrolled}
use Rattle.executor_laws.proofs.Walks.Finding.{enrolled-here}
use Rattle.plain_scheduler.specs.State.{Code, Plain, Taker}
use Rattle.plain_scheduler.specs.Moves.{is_kept}
use Rattle.machine_roads.specs.View.{Output}
use Rattle.machine_roads.specs.Road.{Follows, futures_in, is_ended, run_view}
use Rattle.machine_roads.specs.Stopped.{Stopped, answered, drops, drops_given, drops_polled, polls}
use Rattle.machine_roads.specs.Within.{GoesOnBy, Nested, by_run, by_tick, by_try, drops_own, nowhere, polls_own, takes}
use Rattle.machine_roads.proofs.Counting.{Alike, Counted, leaves, over_in, some_op}
use Rattle.machine_roads.proofs.Inmost.{whole}
use Rattle.machine_roads.proofs.Lists.{apart_of, clash, same_of}
use Rattle.machine_roads.proofs.Runs.{over_is}

stages_alike : (st : Stage) → is_ended st ≡ is_over_stage st
stages_alike New = refl
stages_alike Listed = refl
stages_alike Ended = refl

pub off_left : (a b : Bool) → (a || b) ≡ false → (a ≡ false) × (b ≡ false)
off_left false b is = (refl, is)
off_left true b is = absurd cc

none_same : (k r : ℕ) → (k == r) ≡ false → same k r ≡ 0
none_same k r apart = grind (arith, same_is, nat_tests)

-- where no run is to leave the list, none is emptied
module _ (k : ℕ) where
  pub final_none : (taker : Taker Waker) (final : Op) → GoesOnBy taker final → (emptying_of k final ≡ 0) × (leaves k final ≡ false)
  final_none taker final by_try = (refl, refl)
  final_none taker final (by_tick t a) = (refl, refl)
  final_none taker final (by_run x true) = (refl, refl)
  final_none taker final (by_run x false) = (refl, refl)

  pub none_empty : (os : List Op) (codes : List (Code Output Waker)) → Nested os codes → some_op (leaves k) os ≡ false
      → weigh (emptying_of k) os ≡ 0
  none_empty os codes nowhere off = refl
  none_empty os codes (polls_own x below inside nested) off = omega (arith, none_empty below inside nested off)
  none_empty os codes (drops_own r below inside nested) off =
      let two = off_left (k == r) (some_op (leaves k) below) off in
      omega (arith, none_same k r two.0, none_empty below inside nested two.1)
  none_empty os codes (takes taker final below xs inside more it nested stopped) off =
      by (none_empty below inside nested) os codes stopped off
    where
      rest : some_op (leaves k) (final ∷ below) ≡ false → some_op (leaves k) below ≡ false
      rest off = (off_left (leaves k final) (some_op (leaves k) below) off).1

      by : (some_op (leaves k) below ≡ false → weigh (emptying_of k) below ≡ 0) → (os : List Op) (codes : List (Code Output Waker))
          → Stopped taker final below inside os codes → some_op (leaves k) os ≡ false → weigh (emptying_of k) os ≡ 0
      by so os codes answered off = so off
      by so os codes (polls f) off = omega (arith, (final_none taker final it).0, so (rest off))
      by so os codes (drops f) off = omega (arith, (final_none taker final it).0, so (rest off))
      by so os codes (drops_polled f) off = omega (arith, (final_none taker final it).0, so (rest off))
      by so os codes (drops_given f) off = omega (arith, (final_none taker final it).0, so (rest off))

-- what lies above a call that takes is nothing to runs
pub record Above (os rest : List Op) : Type 0 where
  pub used : (r : ℕ) → weigh (running_of r) os ≡ weigh (running_of r) rest
  pub polled : (r : ℕ) → weigh (polling_of r) os ≡ weigh (polling_of r) rest
  pub emptied : (r : ℕ) → weigh (emptying_of r) os ≡ weigh (emptying_of r) rest
  pub alike : Alike rest os

module _ (s : Machine) (reached : Reached s) (p : ℕ) (there : p < length s.parties) (os : List Op)
    (is : reverse (stack s p) ≡ os) where
  enrolled : Enrolled s
  enrolled = enrolled-here s reached

  -- one call uses a run at a time
  pub used_once : (r : ℕ) → weigh (running_of r) os ≤ 1
  used_once r = omega (arith, (enrolled.used r).once, whole s p reached there os is (running_of r))

  -- where both stand alike but for what is nothing to runs
  module _ (q : Plain Output Waker) (v : World) (follows : Follows v q) (runs : v.runs ≡ s.world.runs) (own : v.own ≡ s.world.own) where
    past_is : (r : ℕ) → over_in r q.runs ≡ is_past (run_of s.world r)
    past_is r =
        (over_is v.runs q.runs follows.runs r ∙ ap (λ rs. (run_view (get_or rs r no_run)).is_over) runs)
        ∙ ap (λ b. (run_of s.world r).dropped || b) (stages_alike (run_of s.world r).stage)

    -- one that is polled isn't over
    pub going_here : (r : ℕ) → 1 ≤ weigh (polling_of r) os → over_in r q.runs ≡ false
    going_here r some =
        past_is r ∙ (enrolled.used r).polled (omega (arith, some, whole s p reached there os is (polling_of r)))

    -- and no run that is over keeps anything
    pub left_here : OthersRest p s → ((k : ℕ) → some_op (leaves k) os ≡ false → weigh (emptying_of k) os ≡ 0) → Counted os q.runs
        → (k : ℕ) → over_in k q.runs ≡ true → futures_in (is_kept k) q.due ≡ []
    left_here others quiet counted k over =
        ⊎_elim (λ (none : own_of s.world k ≡ []). sym (follows.kept k) ∙ (ap (λ (qs : List (List ℕ)). get_or qs k []) own ∙ none))
        (λ (some : 1 ≤ weigh_all (emptying_of k) s.parties). absurd (by (some_op (leaves k) os) refl some))
        ((enrolled.used k).emptied (sym (past_is k) ∙ over))
      where
        rest_of : (n : ℕ) (b : Bool) → (n == p) ≡ b → get_or (set s.parties p []) n [] ≡ []
        rest_of n true here =
            subst (λ n. get_or (set s.parties p []) n [] ≡ []) (sym (same_of n p here)) (get_or-set_same s.parties p [] [] there)
        rest_of n false apart =
            let other = apart_of n p apart in get_or-set_other s.parties p n [] [] other ∙ others n other

        by : (b : Bool) → some_op (leaves k) os ≡ b → 1 ≤ weigh_all (emptying_of k) s.parties → ⊥
        by true leaving some = clash (counted.going k leaving) over
        by false off some =
            omega (
              arith,
              some,
              whole s p reached there os is (emptying_of k),
              quiet k off,
              all-rest (emptying_of k) (set s.parties p []) (λ n. rest_of n (n == p) refl),
            )

-- who uses a run in one count does in the other
who_runs : (r : ℕ) (t : TickOrRun) → is_it (tick_or_run.Run r) t ≤ is_run r t
who_runs r (tick_or_run.Tick u) = omega arith
who_runs r (tick_or_run.Run q) = omega arith

hold_runs : (r : ℕ) (held : Hold) → holds_it (tick_or_run.Run r) held ≤ holds_run r held
hold_runs r (hold.Run q) = omega arith
hold_runs r (hold.Tick t) = omega arith
hold_runs r _ = omega arith

used_runs : (r : ℕ) (o : Op) → used_of (tick_or_run.Run r) o ≤ running_of r o
used_runs r (op.User (user_op.PollOwn x)) = omega arith
used_runs r (op.Tick (tick_op.Search s)) = omega (arith, who_runs r s.who)
used_runs r (op.Tick (tick_op.Look s l)) = omega (arith, who_runs r s.who)
used_runs r (op.Tick (tick_op.CopyWaker s)) = omega (arith, who_runs r s.who)
used_runs r (op.Tick (tick_op.FallAsleep s)) = omega (arith, who_runs r s.who)
used_runs r (op.List (list_op.LockWrite section.MakeRun)) = omega arith
used_runs r (op.List (list_op.LockWrite (section.Register x))) = omega arith
used_runs r (op.List (list_op.LockWrite (section.Unregister q a))) = omega arith
used_runs r (op.List (list_op.Write section.MakeRun)) = omega arith
used_runs r (op.List (list_op.Write (section.Register x))) = omega arith
used_runs r (op.List (list_op.Write (section.Unregister q a))) = omega arith
used_runs r (op.List (list_op.LockRead x)) = omega arith
used_runs r (op.Steal (steal_op.Length s)) = omega arith
used_runs r (op.Steal (steal_op.OwnLength s n)) = omega arith
used_runs r (op.Steal (steal_op.Take s more)) = omega arith
used_runs r (op.Steal (steal_op.Put s more f)) = omega arith
used_runs r (op.Run (run_op.TakeTurn x)) = omega arith
used_runs r (op.Run (run_op.SearchCommon x l)) = omega arith
used_runs r (op.Run (run_op.LookOwn x at left)) = omega arith
used_runs r (op.Run (run_op.WakeOwn x)) = omega arith
used_runs r (op.Run (run_op.Reschedule q a)) = omega arith
used_runs r (op.End a held) = hold_runs r held
used_runs r _ = omega arith

all_below : (v u : Op → ℕ) → ((o : Op) → v o ≤ u o) → (os : List Op) → weigh v os ≤ weigh u os
all_below v u few [] = omega arith
all_below v u few (o ∷ os) = omega (arith, few o, all_below v u few os)

each_below : (v u : Op → ℕ) → ((o : Op) → v o ≤ u o) → (ss : List (List Op)) → weigh_all v ss ≤ weigh_all u ss
each_below v u few [] = omega arith
each_below v u few (os ∷ ss) = omega (arith, all_below v u few os, each_below v u few ss)

-- a run that has ended and isn't used doesn't sleep
pub awake_here : (s : Machine) → Reached s → (r : ℕ) → weigh_all (running_of r) s.parties ≡ 0 → (run_of s.world r).stage ≡ Ended
    → sleeps (run_of s.world r).place ≡ 0
awake_here s reached r unused is =
    let all : Standing s = subst Standing (sym reached.is) (standing reached.limit reached.kind reached.parties reached.steps) in
    let few = each_below (used_of (tick_or_run.Run r)) (running_of r) (used_runs r) s.parties in
    ⊎_elim (λ both. both.0) (λ used. absurd (omega (arith, used, few, unused)))
    ((all.stands (tick_or_run.Run r)).rests (ap is_over_stage is))
