-- For some_standing_is_called.
-- Each move of a party keeps what holds of each tick and run.
use Rattle.std.proofs.Common.{◌≡◌, ◌⊎◌, ◌∙◌, ℕ, suc, ◌<◌, ◌≤◌, List, [], ◌∷◌, ◌++◌, length, set, Bool, true, false, ◌&&◌, ◌||◌}
use Rattle.std.proofs.Common.{not, cond, refl, sym, ap, subst, inl, inr, ⊎_elim, arith}
use Rattle.std.specs.Prelude.{reverse}
use Rattle.executor_laws.proofs.Types.{Reply, Call, Answer, Event, Op, UserOp, Hint, UserEnd, ListOp, Section, TickOrRun}
use Rattle.executor_model.specs.World.{World, Done, log, run_of}
use Rattle.executor_model.specs.Steps.{Machine, stack, mine, top, has_all, is_drop, is_unborrowed, accepts, begun, react}
use Rattle.executor_model.specs.{Doing.act, Good.Good, Rows.borrowing_of, Weights.weigh_all}
use Rattle.executor_model.proofs.{Quiet.Calls.is_end, Quiet.Calls.Passes, Quiet.Calls.single, Quiet.Calls.then}
use Rattle.executor_model.proofs.{Quiet.CallsGroups.calls-act, Steps.Lift.split, Steps.Lift.unsettled, Steps.Lift.first-true}
use Rattle.executor_model.proofs.{Steps.Lift.set-own, Quiet.Resting.opens, Sleepers.SleepersFollowingExecutions.Followed}
use Rattle.executor_model.proofs.{OwnQueues.Using.polling_of, OwnQueues.UsingSteps.AllUsed, OwnQueues.UsingWorlds.is_over_stage}
use Rattle.executor_laws.proofs.Wakeups.StandsSteps.{Standing, before, footing-here, held-begun, held-polled, held-same, slept}
use Rattle.executor_laws.proofs.Wakeups.StandsSteps.{stands-here, stands-pushed, tied-pushed}
use Rattle.executor_laws.proofs.Wakeups.Stands.{view, with_doing, doing, Stands, Mark, used_of}
use Rattle.executor_laws.proofs.Wakeups.StandsPolls.{asked, begun_in, polls_at}
use Rattle.executor_laws.proofs.Wakeups.StandsGroups.{IsLive, stands-act, stands-react}
use Rattle.executor_laws.proofs.Wakeups.StandsWakingUp.{tied-act, tied-begun, tied-react}
use Rattle.executor_laws.proofs.Wakeups.StandsUses.{all-gone, none-lives, uses-run, uses-tick}
use Rattle.executor_laws.proofs.Wakeups.StandsCalls.{Uses, stands-begun}
use Rattle.executor_laws.proofs.{Types.TickOp, Wakeups.Sitting.eq_who}
use Rattle.executor_model.specs.ActsOfRuns as runs

-- what is done

not-gone : (b : Bool) (n : ℕ) → (b ≡ true → n ≡ 0) → 1 ≤ n → b ≡ false
not-gone false n k h = refl
not-gone true n k h = absurd (omega (arith, k refl, h))

-- a run that is polled isn't over
is-live : (s : Machine) (p : ℕ) (rest : List Op) (o : Op) → p < length s.parties →
    stack s p ≡ rest ++ reverse (o ∷ []) → AllUsed s → IsLive o s.world
is-live s p rest o l e u r k = by (run_of s.world r).dropped ((u r).polled
    (omega (arith, k, split (polling_of r) s.parties p (o ∷ []) rest l e)))
  where
    by : (d : Bool) → (d || is_over_stage (run_of s.world r).stage) ≡ false →
        is_over_stage (run_of s.world r).stage ≡ false
    by false q = q
    by true q = absurd (cc)

pub standing-acted : (s : Machine) (p : ℕ) (rest : List Op) (h : Hint) (o : Op) → is_end o ≡ false →
    p < length s.parties →
    stack s p ≡ rest ++ reverse (o ∷ []) → Good s → Followed (unsettled s p rest (act p h o s.world)) →
    AllUsed (unsettled s p rest (act p h o s.world)) → Standing s →
    Standing (unsettled s p rest (act p h o s.world))
standing-acted s p rest h o n l e good follows uses k = record {
  followed = follows;
  used = uses;
  tied = λ t. tied-pushed s p (o ∷ []) rest (act p h o s.world) l e k t (tied-act t p h o s.world);
  stands = λ t. stands-pushed s p (o ∷ []) rest (act p h o s.world) l e k t
      (before s p (o ∷ []) rest (act p h o s.world) l e k t) (step t);
  held = λ t. held-same s p (o ∷ []) rest (act p h o s.world) l e k t o refl (calls-act p h o s.world n).passes
      (step t);
}
  where
    borrows : 1 ≤ borrowing_of o → s.world.gone ≡ false
    borrows b = not-gone s.world.gone (weigh_all borrowing_of s.parties) ((good.sound 0).lent)
        (omega (arith, split borrowing_of s.parties p (o ∷ []) rest l e, b))

    step : (t : TickOrRun) → Stands (view t (act p h o s.world).world)
        (with_doing t (act p h o s.world).next (doing t (set s.parties p rest)))
        (before s p (o ∷ []) rest (act p h o s.world) l e k t)
    step t = stands-act t p h o s.world (slept s k) borrows (is-live s p rest o l e k.used) n
        (doing t (set s.parties p rest))
        (before s p (o ∷ []) rest (act p h o s.world) l e k t)
        (footing-here s p (o ∷ []) rest (act p h o s.world) l e k t)
        (stands-here s p (o ∷ []) rest (act p h o s.world) l e k t)

-- the end of user code

passes-react : (p : ℕ) (o : Op) (u : UserEnd) (w : World) → accepts o u ≡ true → Passes o (react p o u w).next
passes-react p (Op.User (UserOp.Poll f)) (UserEnd.Polled Answer.Pending) w a =
    record { none = λ z. refl; one = λ z. absurd (omega (arith, z)) }
passes-react p (Op.User (UserOp.Poll f)) (UserEnd.Polled Answer.Ready) w a =
    record { none = λ z. refl; one = λ z. absurd (omega (arith, z)) }
passes-react p (Op.User (UserOp.Drop f)) UserEnd.Done w a =
    record { none = λ z. refl; one = λ z. absurd (omega (arith, z)) }
passes-react p (Op.User (UserOp.DropOutput f)) UserEnd.Done w a =
    record { none = λ z. refl; one = λ z. absurd (omega (arith, z)) }
passes-react p (Op.User (UserOp.CallOutside x)) UserEnd.Done w a =
    record { none = λ z. refl; one = λ z. absurd (omega (arith, z)) }
passes-react p (Op.User (UserOp.PollOwn x)) (UserEnd.Polled Answer.Pending) w a = record {
  none = λ z. absurd (omega (arith, z));
  one = λ z. single (Op.Tick (TickOp.Search (runs.asleep x))) refl;
}
passes-react p (Op.User (UserOp.PollOwn x)) (UserEnd.Polled Answer.Ready) w a = record {
  none = λ z. absurd (omega (arith, z));
  one = λ z. then (Op.User (UserOp.DropOwn x.run) ∷ [])
      (Op.List (ListOp.LockWrite (Section.Unregister x.run Reply.Ready))) refl refl;
}
passes-react p (Op.User (UserOp.DropOwn q)) UserEnd.Done w a =
    record { none = λ z. refl; one = λ z. absurd (omega (arith, z)) }
passes-react p _ _ w a = absurd (cc)

pub standing-reacted : (s : Machine) (p : ℕ) (rest : List Op) (o : Op) (u : UserEnd) → accepts o u ≡ true →
    p < length s.parties →
    stack s p ≡ rest ++ reverse (o ∷ []) → Followed (unsettled s p rest (react p o u s.world)) →
    AllUsed (unsettled s p rest (react p o u s.world)) → Standing s →
    Standing (unsettled s p rest (react p o u s.world))
standing-reacted s p rest o u a l e follows uses k = record {
  followed = follows;
  used = uses;
  tied = λ t. tied-pushed s p (o ∷ []) rest (react p o u s.world) l e k t (tied-react t p o u s.world a);
  stands = λ t. stands-pushed s p (o ∷ []) rest (react p o u s.world) l e k t
      (before s p (o ∷ []) rest (react p o u s.world) l e k t)
      (step t);
  held = λ t. held-same s p (o ∷ []) rest (react p o u s.world) l e k t o refl (passes-react p o u s.world a) (step t);
}
  where
    step : (t : TickOrRun) → Stands (view t (react p o u s.world).world)
        (with_doing t (react p o u s.world).next (doing t (set s.parties p rest)))
        (before s p (o ∷ []) rest (react p o u s.world) l e k t)
    step t = stands-react t p o u s.world a (doing t (set s.parties p rest))
        (before s p (o ∷ []) rest (react p o u s.world) l e k t)
        (footing-here s p (o ∷ []) rest (react p o u s.world) l e k t)
        (stands-here s p (o ∷ []) rest (react p o u s.world) l e k t)

-- the beginning of a call

and-right : (a b : Bool) → (a && b) ≡ true → b ≡ true
and-right true b e = e
and-right false b e = absurd (cc)

not-true : (b : Bool) → not b ≡ true → b ≡ false
not-true true e = absurd (cc)
not-true false e = refl

abbrev pub begun_done : Machine → ℕ → Call → Done
begun_done s p c = begun p (log s.world (Event.CallBegun p c)) (mine (top (stack s p))) c

uses-it : (s : Machine) (p : ℕ) (t : TickOrRun) (c : Call) → has_all s.world s.parties (top (stack s p)) c ≡ true →
    (not (is_drop c) || is_unborrowed s.world s.parties) ≡ true →
    Uses t c (view t s.world) (weigh_all (used_of t) s.parties)
uses-it s p t (Call.PollTick u b) k un = uses-tick s t u (first-true _ _ k)
uses-it s p t (Call.DropTick u) k un = uses-tick s t u k
uses-it s p t (Call.PollRun q b) k un = uses-run s t q (first-true _ _ k)
uses-it s p t (Call.DropRun q) k un = uses-run s t q k
uses-it s p t Call.DropExecutor k un = none-lives s t (all-gone _ _ _ un)
uses-it s p t _ k un = tt

abbrev Opening : ℕ → Mark → Mark → Type 0
Opening p m n = (n ≡ begun_in p m) ⊎ ((n.party ≡ p) × (n.inner ≡ 0) × (n.asks ≡ suc m.asks))

polls-is : (t u : TickOrRun) (p : ℕ) (m : Mark) → Opening p m (polls_at t u p m)
polls-is t u p m = go (eq_who t u)
  where
    go : (c : Bool) → Opening p m (cond c (record { asking = true; party = p; inner = 0; asks = suc m.asks })
        (begun_in p m))
    go true = inr (refl, refl, refl)
    go false = inl refl

asked-is : (p : ℕ) (c : Call) (t : TickOrRun) (m : Mark) → Opening p m (asked p c t m)
asked-is p (Call.PollTick u b) t m = polls-is t (TickOrRun.Tick u) p m
asked-is p (Call.PollRun q b) t m = polls-is t (TickOrRun.Run q) p m
asked-is p _ t m = inl refl

pub standing-begun : (s : Machine) (p : ℕ) (rest : List Op) (c : Call) →
    has_all s.world s.parties (top (stack s p)) c ≡ true →
    (not (is_drop c) || is_unborrowed s.world s.parties) ≡ true → p < length s.parties → rest ≡ stack s p →
    stack s p ≡ rest ++ reverse [] → Followed (unsettled s p rest (begun_done s p c)) →
    AllUsed (unsettled s p rest (begun_done s p c)) → Standing s →
    Standing (unsettled s p rest (begun_done s p c))
standing-begun s p rest c k un l r e follows uses h = record {
  followed = follows;
  used = uses;
  tied = λ t. tied-pushed s p [] rest (begun_done s p c) l e h t (tied-begun t p s.world (mine (top (stack s p))) c);
  stands = λ t. stands-pushed s p [] rest (begun_done s p c) l e h t
      (asked p c t (before s p [] rest (begun_done s p c) l e h t)) (step t);
  held = λ t. ⊎_elim
      (λ (x : asked p c t (before s p [] rest (begun_done s p c) l e h t) ≡ begun_in p
      (before s p [] rest (begun_done s p c) l e h t)). held-begun s p [] rest (begun_done s p c) l e h t refl
      (opens p s.world s.parties (top (stack s p)) c k).1
      (subst (λ (m : Mark). Stands (view t (begun_done s p c).world)
      (with_doing t (begun_done s p c).next (doing t (set s.parties p rest))) m) x (step t)))
      (λ (x : ((asked p c t (before s p [] rest (begun_done s p c) l e h t)).party ≡ p) ×
      ((asked p c t (before s p [] rest (begun_done s p c) l e h t)).inner ≡ 0) ×
      ((asked p c t (before s p [] rest (begun_done s p c) l e h t)).asks ≡ suc
      (before s p [] rest (begun_done s p c) l e h t).asks)). held-polled s p [] rest (begun_done s p c) l e h t refl
      (opens p s.world s.parties (top (stack s p)) c k).1 (asked p c t (before s p [] rest (begun_done s p c) l e h t))
      x.0 x.1 x.2
      (step t))
      (asked-is p c t (before s p [] rest (begun_done s p c) l e h t));
}
  where
    own_parties : set s.parties p rest ≡ s.parties
    own_parties = ap (set s.parties p) r ∙ set-own s.parties p l

    step : (t : TickOrRun) → Stands (view t (begun_done s p c).world)
        (with_doing t (begun_done s p c).next (doing t (set s.parties p rest)))
        (asked p c t (before s p [] rest (begun_done s p c) l e h t))
    step t = stands-begun t p s.world (mine (top (stack s p))) c (doing t (set s.parties p rest))
        (before s p [] rest (begun_done s p c) l e h t) (subst
        (λ (ss : List (List Op)). Uses t c (view t s.world) (weigh_all (used_of t) ss)) (sym own_parties)
        (uses-it s p t c k un)) (footing-here s p [] rest (begun_done s p c) l e h t)
        (stands-here s p [] rest (begun_done s p c) l e h t)
