-- For some_standing_is_called.
-- What the stacks weigh in the counts of a tick or run.
use Rattle.std.proofs.Common.{◌≡◌, ℕ, zero, suc, ◌+◌, ◌<◌, ◌≤◌, List, [], ◌∷◌, ◌++◌, length, get_or, set, refl, arith}
use Rattle.std.specs.Prelude.{reverse}
use Rattle.executor_laws.proofs.Types.{Hold, ListOp, Op, RunOp, Section, TickOrRun, TickOp, UserOp}
use Rattle.executor_model.specs.{Steps.idle, Weights.weigh, Weights.weigh_all}
use Rattle.executor_model.proofs.{Quiet.Calls.calling_of, Steps.Lift.split, Steps.Lift.weigh_all-idle}
use Rattle.executor_model.proofs.{Steps.Lists.weigh_all-below, Steps.Lists.weigh_all-push, OwnQueues.RunsDone.poll_in}
use Rattle.executor_laws.proofs.Wakeups.Stands.{used_of, early_of, early_section, pends_of, refused_of, found_of, ends_of}
use Rattle.executor_laws.proofs.Wakeups.Stands.{waking_up_of, drops_of, odd_of, is_ready, strays_of, calls_of, asks_of, Doing}
use Rattle.executor_laws.proofs.Wakeups.Stands.{with_doing, doing, Footing}
use Rattle.executor_laws.proofs.Wakeups.Sitting.{few, holds_it, is_it}
use Rattle.executor_laws.proofs.Wakeups.StandsNothing.{cond-few, end-parts, few-one, leaves-one, stages-one}

-- each stage uses it

stages-stack : (t : TickOrRun) (os : List Op) →
    weigh (early_of t) os + (weigh (pends_of t) os +
    (weigh (refused_of t) os + (weigh (found_of t) os + weigh (ends_of t) os)))
    ≤ weigh (used_of t) os
stages-stack t [] = omega arith
stages-stack t (o ∷ os) = omega (arith, stages-one t o, stages-stack t os)

stages-all : (t : TickOrRun) (ss : List (List Op)) →
    weigh_all (early_of t) ss + (weigh_all (pends_of t) ss +
    (weigh_all (refused_of t) ss + (weigh_all (found_of t) ss + weigh_all (ends_of t) ss)))
    ≤ weigh_all (used_of t) ss
stages-all t [] = omega arith
stages-all t (s ∷ ss) = omega (arith, stages-stack t s, stages-all t ss)

-- where who wakes up or leaves is in use, also beside what one party does
pub footing : (t : TickOrRun) (ss others : List (List Op)) →
    (1 ≤ weigh_all (waking_up_of t) ss → 1 ≤ weigh_all (used_of t) ss) →
    (1 ≤ weigh_all (waking_up_of t) others → 1 ≤ weigh_all (used_of t) others) → Footing (doing t ss) (doing t others)
footing t ss others a b = record {
  stages = stages-all t ss;
  few = λ k. weigh_all-below (strays_of t k) (early_of t) (few-one t k) ss;
  leaves = weigh_all-below (drops_of t) (waking_up_of t) (leaves-one t) ss;
  tied = a;
  bound = b;
  base = stages-all t others;
}

-- what has to end a poll

pub asks-weighs : (t : TickOrRun) (os : List Op) →
    weigh (asks_of t) os ≡ weigh (early_of t) os
    + (weigh (pends_of t) os + (weigh (refused_of t) os + weigh (found_of t) os))
asks-weighs t [] = refl
asks-weighs t (o ∷ os) = omega (arith, asks-weighs t os)

pub asks-all : (t : TickOrRun) (ss : List (List Op)) →
    weigh_all (asks_of t) ss ≡ weigh_all (early_of t) ss + (weigh_all (pends_of t) ss +
    (weigh_all (refused_of t) ss + weigh_all (found_of t) ss))
asks-all t [] = refl
asks-all t (s ∷ ss) = omega (arith, asks-weighs t s, asks-all t ss)

pub weigh-at : (v : Op → ℕ) (ss : List (List Op)) (q : ℕ) → weigh v (get_or ss q []) ≤ weigh_all v ss
weigh-at v [] q = omega arith
weigh-at v (s ∷ ss) zero = omega arith
weigh-at v (s ∷ ss) (suc q) = omega (arith, weigh-at v ss q)

holds-few : (t : TickOrRun) (held : Hold) → holds_it t held ≤ 1
holds-few t (Hold.Tick u) = few t (TickOrRun.Tick u)
holds-few t (Hold.Run q) = few t (TickOrRun.Run q)
holds-few t _ = omega arith

section-few : (t : TickOrRun) (s : Section) → early_section t s ≤ 1
section-few t Section.MakeRun = omega arith
section-few t (Section.Register x) = few t (TickOrRun.Run x.run)
section-few t (Section.Unregister q a) =
    omega (arith, cond-few (is_ready a) (is_it t (TickOrRun.Run q)), few t (TickOrRun.Run q))

-- it answers its call
pub asks-calling : (t : TickOrRun) (o : Op) → asks_of t o ≤ calling_of o
asks-calling t (Op.User (UserOp.PollOwn x)) = omega (arith, few t (TickOrRun.Run x.run))
asks-calling t (Op.Tick (TickOp.Search s)) = omega (arith, few t s.who)
asks-calling t (Op.Tick (TickOp.Look s look)) = omega (arith, few t s.who)
asks-calling t (Op.Tick (TickOp.CopyWaker s)) = omega (arith, few t s.who)
asks-calling t (Op.Tick (TickOp.FallAsleep s)) = omega (arith, few t s.who)
asks-calling t (Op.List (ListOp.LockWrite s)) = omega (arith, section-few t s)
asks-calling t (Op.List (ListOp.Write s)) = omega (arith, section-few t s)
asks-calling t (Op.List ListOp.UnlockWrite) = omega arith
asks-calling t (Op.List (ListOp.LockRead x)) = omega (arith, few t (TickOrRun.Run x.run))
asks-calling t (Op.List ListOp.UnlockRead) = omega arith
asks-calling t (Op.Steal o) = omega (arith, few t (TickOrRun.Run (poll_in o).run))
asks-calling t (Op.Run RunOp.MakeRoom) = omega arith
asks-calling t (Op.Run RunOp.ReturnRoom) = omega arith
asks-calling t (Op.Run (RunOp.TakeTurn x)) = omega (arith, few t (TickOrRun.Run x.run))
asks-calling t (Op.Run (RunOp.SearchCommon x look)) = omega (arith, few t (TickOrRun.Run x.run))
asks-calling t (Op.Run (RunOp.LookOwn x at left)) = omega (arith, few t (TickOrRun.Run x.run))
asks-calling t (Op.Run (RunOp.WakeOwn x)) = omega (arith, few t (TickOrRun.Run x.run))
asks-calling t (Op.Run (RunOp.Reschedule q a)) =
    omega (arith, cond-few (is_ready a) (is_it t (TickOrRun.Run q)), few t (TickOrRun.Run q))
asks-calling t (Op.End r held) = omega (arith, end-parts r (holds_it t held), holds-few t held)
asks-calling t _ = omega arith

-- of one party and of the others

pub split-doing : (t : TickOrRun) (ss : List (List Op)) (p : ℕ) (old rest : List Op) → p < length ss →
    get_or ss p [] ≡ rest ++ reverse old →
    doing t ss ≡ with_doing t old (doing t (set ss p rest))
split-doing t ss p old rest l e = λ i. record {
  used = split (used_of t) ss p old rest l e i;
  early = split (early_of t) ss p old rest l e i;
  pends = split (pends_of t) ss p old rest l e i;
  refused = split (refused_of t) ss p old rest l e i;
  found = split (found_of t) ss p old rest l e i;
  waking_up = split (waking_up_of t) ss p old rest l e i;
  drops = split (drops_of t) ss p old rest l e i;
  ends = split (ends_of t) ss p old rest l e i;
  odd = split (odd_of t) ss p old rest l e i;
  strays = λ k. split (strays_of t k) ss p old rest l e i;
  calls = λ k. split (calls_of t k) ss p old rest l e i;
}

pub push-doing : (t : TickOrRun) (ss : List (List Op)) (p : ℕ) (rest next : List Op) → p < length ss →
    doing t (set ss p (rest ++ reverse next)) ≡ with_doing t next (doing t (set ss p rest))
push-doing t ss p rest next l = λ i. record {
  used = weigh_all-push (used_of t) ss p rest next l i;
  early = weigh_all-push (early_of t) ss p rest next l i;
  pends = weigh_all-push (pends_of t) ss p rest next l i;
  refused = weigh_all-push (refused_of t) ss p rest next l i;
  found = weigh_all-push (found_of t) ss p rest next l i;
  waking_up = weigh_all-push (waking_up_of t) ss p rest next l i;
  drops = weigh_all-push (drops_of t) ss p rest next l i;
  ends = weigh_all-push (ends_of t) ss p rest next l i;
  odd = weigh_all-push (odd_of t) ss p rest next l i;
  strays = λ k. weigh_all-push (strays_of t k) ss p rest next l i;
  calls = λ k. weigh_all-push (calls_of t k) ss p rest next l i;
}

abbrev pub nothing_done : Doing
nothing_done = record {
  used = 0;
  early = 0;
  pends = 0;
  refused = 0;
  found = 0;
  waking_up = 0;
  drops = 0;
  ends = 0;
  odd = 0;
  strays = λ k. 0;
  calls = λ k. 0;
}

pub idle-doing : (t : TickOrRun) (n : ℕ) → doing t (idle n) ≡ nothing_done
idle-doing t n = λ i. record {
  used = weigh_all-idle (used_of t) n i;
  early = weigh_all-idle (early_of t) n i;
  pends = weigh_all-idle (pends_of t) n i;
  refused = weigh_all-idle (refused_of t) n i;
  found = weigh_all-idle (found_of t) n i;
  waking_up = weigh_all-idle (waking_up_of t) n i;
  drops = weigh_all-idle (drops_of t) n i;
  ends = weigh_all-idle (ends_of t) n i;
  odd = weigh_all-idle (odd_of t) n i;
  strays = λ k. weigh_all-idle (strays_of t k) n i;
  calls = λ k. weigh_all-idle (calls_of t k) n i;
}
