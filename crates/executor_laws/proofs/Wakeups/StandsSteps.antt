-- For some_standing_is_called.
-- What holds of each tick and run together, and what a step of a party leaves of it.
use Rattle.std.proofs.Common.{◌≡◌, ◌≢◌, ◌∙◌, ℕ, suc, ◌+◌, ◌<◌, List, [], ◌∷◌, ◌++◌, length, get_or, set, Bool, true, false}
use Rattle.std.proofs.Common.{cond, sym, ap, subst, arith}
use Rattle.std.specs.Prelude.{reverse}
use Rattle.executor_model.specs.{World.Done, Steps.Machine, Steps.stack, Weights.same, Weights.weigh}
use Rattle.executor_model.proofs.Awaiters.Holding.{nowhere, seen, seen-light, seen-passes, Spotted, Open, Holds, held-step}
use Rattle.executor_model.proofs.Quiet.Calls.{calling_of, Passes, Answering}
use Rattle.executor_model.proofs.Sleepers.SleepersFollowingExecutions.{Followed, agrees}
use Rattle.executor_model.proofs.Steps.Lists.{same_is, weigh-reverse}
use Rattle.executor_model.proofs.{Awaiters.Holding.held-asks, Quiet.Resting.counts-answering, OwnQueues.UsingSteps.AllUsed}
use Rattle.executor_laws.proofs.Wakeups.Stands.{View, view, Doing, with_doing, doing, Footing, Stands, Mark, asks_of}
use Rattle.executor_laws.proofs.Wakeups.StandsTied.{IsTied, Tied, tied-all, tied-push, tied-rest, tied-set}
use Rattle.executor_laws.proofs.Wakeups.StandsWeights.{footing, asks-weighs, asks-calling, split-doing, push-doing}
use Rattle.executor_laws.proofs.Wakeups.Watched.{Watched, watched}
use Rattle.executor_laws.proofs.{Types.Op, Types.TickOrRun, Wakeups.Sitting.placed-in, Wakeups.StandsEnds.marked}
use Rattle.executor_laws.proofs.{Wakeups.StandsPolls.begun_in, Wakeups.StandsWorlds.HasSlept}

abbrev pub open_of : Watched → Open
open_of s = record { asking = s.asking; party = s.party; inner = s.inner }

pub record Standing (s : Machine) : Type 0 where
  pub followed : Followed s
  pub used : AllUsed s
  pub tied : (t : TickOrRun) (q : ℕ) → IsTied t (stack s q)
  pub stands : (t : TickOrRun) →
      Stands (view t s.world) (doing t s.parties) (marked (view t s.world) (doing t s.parties))
  pub held : (t : TickOrRun) → Holds (asks_of t) (open_of (watched t s.world.trace)) s.parties

pub slept : (s : Machine) → Standing s → HasSlept s.world
slept s h = record {
  apart = λ t u n a b. (agrees s h.followed).apart t u n (placed-in s.world t ∙ a) (placed-in s.world u ∙ b);
  placed = λ t. (h.stands t).placed;
}

-- the mark is what it is
renew : (v : View) (x : Doing) (m : Mark) → Stands v x m → Stands v x (marked v x)
renew v x m h = grind arith

-- a step of party p, by what it keeps of t and of its mark

module _ (s : Machine) (p : ℕ) (old rest : List Op) (d : Done) (l : p < length s.parties)
    (e : stack s p ≡ rest ++ reverse old) (h : Standing s) (t : TickOrRun) where
  abbrev pub beside : Doing
  beside = doing t (set s.parties p rest)

  abbrev pub before : Mark
  before = marked (view t s.world) (with_doing t old beside)

  abbrev pub open_then : Open
  open_then = open_of (watched t d.world.trace)

  abbrev pub after : List (List Op)
  after = set s.parties p (rest ++ reverse d.next)

  tied-beside : (q : ℕ) → IsTied t (get_or (set s.parties p rest) q [])
  tied-beside = tied-set t s.parties p rest l (h.tied t) (tied-rest t rest old (subst (IsTied t) e (h.tied t p)))

  pub footing-here : Footing (with_doing t old beside) beside
  footing-here = subst (λ (x : Doing). Footing x beside) (split-doing t s.parties p old rest l e)
      (footing t s.parties (set s.parties p rest) (tied-all t s.parties (h.tied t))
      (tied-all t (set s.parties p rest) tied-beside))

  pub tied-pushed : Tied t d.next → (q : ℕ) → IsTied t (get_or after q [])
  tied-pushed k = tied-set t s.parties p (rest ++ reverse d.next) l (h.tied t)
      (tied-push t rest d.next (tied-rest t rest old (subst (IsTied t) e (h.tied t p))) k)

  pub stands-here : Stands (view t s.world) (with_doing t old beside) before
  stands-here = subst (λ (x : Doing). Stands (view t s.world) x (marked (view t s.world) x))
      (split-doing t s.parties p old rest l e) (h.stands t)

  pub stands-pushed : (m : Mark) → Stands (view t d.world) (with_doing t d.next beside) m →
      Stands (view t d.world) (doing t after) (marked (view t d.world) (doing t after))
  stands-pushed m k = subst (λ (x : Doing). Stands (view t d.world) x (marked (view t d.world) x))
      (sym (push-doing t s.parties p rest d.next l)) (renew (view t d.world) (with_doing t d.next beside) m k)

  -- the mark stays
  pub held-same : (o : Op) → old ≡ o ∷ [] → Passes o d.next →
      Stands (view t d.world) (with_doing t d.next beside) before →
      Holds (asks_of t) open_then after
  held-same o q c k =
      let own_asks : weigh (asks_of t) d.next ≡ asks_of t o =
      omega (arith, k.asks, asks-weighs t d.next, asks-weighs t old, ap (weigh (asks_of t)) q) in
      held-step (asks_of t) (asks-calling t) (open_of (watched t s.world.trace)) open_then s.parties p old rest d.next l
      e
      (λ b. sym k.asking ∙ b)
      k.party
      (λ b n. k.inner)
      (λ b n y. subst (λ (x : ℕ). Spotted x (seen (asks_of t) (seen (asks_of t) nowhere rest) (reverse d.next)))
      (sym k.inner)
      (subst (Spotted (watched t s.world.trace).inner)
      (ap (λ (os : List Op). seen (asks_of t) (seen (asks_of t) nowhere rest) (reverse os)) q
      ∙ seen-passes (asks_of t) (asks-calling t) (seen (asks_of t) nowhere rest) o d.next c own_asks) y))
      (h.held t)

  -- a poll of it begins
  pub held-polled : old ≡ [] → Answering d.next → (m : Mark) → m.party ≡ p → m.inner ≡ 0 → m.asks ≡ suc before.asks →
      Stands (view t d.world) (with_doing t d.next beside) m → Holds (asks_of t) open_then after
  held-polled q a m x i n k =
      held-asks (asks_of t) (asks-calling t) (open_of (watched t s.world.trace)) open_then s.parties p old rest d.next l
      e (k.party ∙ x)
      (k.inner ∙ i) a (omega (arith, k.asks, n, asks-weighs t d.next, asks-weighs t old, ap (weigh (asks_of t)) q))

  -- another call of p begins
  pub held-begun : old ≡ [] → Answering d.next →
      Stands (view t d.world) (with_doing t d.next beside) (begun_in p before) →
      Holds (asks_of t) open_then after
  held-begun q a k =
      let sums : weigh (asks_of t) (reverse d.next) ≡ 0 = omega (
        arith,
        k.asks,
        ap (weigh (asks_of t)) q,
        asks-weighs t d.next,
        asks-weighs t old,
        weigh-reverse (asks_of t) d.next,
      ) in
      let one : weigh calling_of (reverse d.next) ≡ 1 =
      omega (arith, counts-answering d.next a, weigh-reverse calling_of d.next) in
      held-step (asks_of t) (asks-calling t) (open_of (watched t s.world.trace)) open_then s.parties p old rest d.next l
      e
      (λ b. sym k.asking ∙ b)
      k.party
      (λ b n. k.inner ∙ apart-inner (watched t s.world.trace).asking n)
      (λ b n y.
      let here : (watched t d.world.trace).inner ≡ (watched t s.world.trace).inner + 1 = k.inner
      ∙ own-inner (watched t s.world.trace).asking (sym k.asking ∙ b) n in
      let before_it : seen (asks_of t) (seen (asks_of t) nowhere rest) (reverse old) ≡ seen (asks_of t) nowhere rest =
      ap (λ (os : List Op). seen (asks_of t) (seen (asks_of t) nowhere rest) (reverse os)) q in
      let was : Spotted (watched t s.world.trace).inner (seen (asks_of t) nowhere rest) =
      subst (Spotted (watched t s.world.trace).inner) before_it y in
      subst (Spotted (watched t d.world.trace).inner) (sym
      (seen-light (asks_of t) (seen (asks_of t) nowhere rest) (reverse d.next) sums))
      (was.0, omega (arith, was.1, here, one)))
      (h.held t)
    where
      apart-inner : (b : Bool) → (watched t s.world.trace).party ≢ p →
          (watched t s.world.trace).inner + cond b (same (watched t s.world.trace).party p) 0
          ≡ (watched t s.world.trace).inner
      apart-inner false n = omega arith
      apart-inner true n = let z : same (watched t s.world.trace).party p ≡ 0 = grind (arith, same_is) in
          omega (arith, z)

      own-inner : (b : Bool) → b ≡ true → (watched t s.world.trace).party ≡ p →
          (watched t s.world.trace).inner + cond b (same (watched t s.world.trace).party p) 0
          ≡ (watched t s.world.trace).inner + 1
      own-inner false x n = absurd (cc)
      own-inner true x n = let z : same (watched t s.world.trace).party p ≡ 1 = grind (arith, same_is) in
          omega (arith, z)
