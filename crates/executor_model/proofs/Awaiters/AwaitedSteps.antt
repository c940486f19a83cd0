-- For awaiters_are_kept.
-- A step of a party, by what it keeps of each future and of who waits on its handle.
use Rattle.std.proofs.Common.{◌≡◌, ◌≢◌, ℕ, suc, ◌+◌, ◌<◌, ◌≤◌, List, [], ◌∷◌, ◌++◌, length, set, get_or, Bool, true, false}
use Rattle.std.proofs.Common.{cond, eqb, refl, sym, ap, ◌∙◌, subst, ⊎_elim, arith}
use Rattle.std.specs.Prelude.{reverse}
use Rattle.executor_model.specs.{World.World, World.Done, Weights.same, Weights.weigh, Weights.weigh_all, Sound.Pend}
use Rattle.executor_model.specs.{Sound.pend, Sound.with_ops, Good.Good, Rows.handling_of, Steps.Machine, Steps.stack}
use Rattle.executor_model.proofs.Awaiters.Awaited.{heard, Awaiting, with_awaiting, awaiting, Footing, Awaits, Mark, looks_of}
use Rattle.executor_model.proofs.Awaiters.Awaited.{fresh_of, storing_of, again_of, waits_of, over_of, notices_of, notifying_of}
use Rattle.executor_model.proofs.Steps.Lists.{same_cases, weigh-reverse, weigh_all-push}
use Rattle.executor_model.proofs.Steps.Lift.{split, split-pend, push-pend}
use Rattle.executor_model.proofs.Quiet.Calls.{calling_of, Passes, Answering}
use Rattle.executor_model.proofs.Awaiters.Awaited.{mine_of, detaches_of, lending_of, strays_of, calls_of}
use Rattle.executor_model.proofs.Awaiters.AwaitedHeld.{asks_of, asks-weighs, asks-calling, open_of}
use Rattle.executor_model.proofs.Awaiters.Holding.{nowhere, seen, seen-light, seen-passes, Spotted, Holds, held-step, held-asks}
use Rattle.executor_model.proofs.Awaiters.AwaitedCalls.{begun_in, marked, Stages}
use Rattle.executor_model.proofs.{Types.Reply, Types.Hold, Types.Op, Types.HandleOp, OneFuture.Telling.same-cond}
use Rattle.executor_model.proofs.{OneFuture.Telling.one-stray, Quiet.Resting.counts-answering, Awaiters.AwaitedTies.AllTied}
use Rattle.executor_model.proofs.{Awaiters.AwaitedTies.tied-all, Awaiters.AwaitedTelling.over-dropped}

pub record Waited (s : Machine) : Type 0 where
  pub awaits : (g : ℕ) → Awaits s.world g (pend g s.parties) (awaiting g s.parties)
      (marked s.world g (awaiting g s.parties))
  pub held : (g : ℕ) → Holds (asks_of g) (open_of (heard g s.world.trace)) s.parties
  pub tied : AllTied s

abbrev pub nothing_awaited : Awaiting
nothing_awaited = record {
  handling = 0;
  looks = 0;
  fresh = 0;
  storing = 0;
  again = 0;
  waits = 0;
  over = 0;
  notices = 0;
  notifying = 0;
  mine = 0;
  detaches = 0;
  lending = 0;
  strays = λ k. 0;
  calls = λ k. 0;
}

-- what each stack weighs

stages-one : (g : ℕ) (o : Op) →
    looks_of g o + (fresh_of g o + (storing_of g o + (again_of g o + (waits_of g o + over_of g o)))) ≤ handling_of g o
stages-one g (Op.Handle (HandleOp.Look f a)) = omega arith
stages-one g (Op.Handle (HandleOp.CopyAwaiter f a)) = omega arith
stages-one g (Op.Handle (HandleOp.Register f a k)) = omega arith
stages-one g (Op.Handle (HandleOp.EndRegister f a k)) = omega arith
stages-one g (Op.Handle (HandleOp.LookAgain f)) = omega arith
stages-one g (Op.End Reply.Pending (Hold.Handle f)) = omega arith
stages-one g (Op.End Reply.Ready (Hold.Handle f)) = omega arith
stages-one g (Op.End Reply.Cancelled (Hold.Handle f)) = omega arith
stages-one g _ = omega arith

stages-stack : (g : ℕ) (os : List Op) →
    weigh (looks_of g) os + (weigh (fresh_of g) os
    + (weigh (storing_of g) os + (weigh (again_of g) os + (weigh (waits_of g) os + weigh (over_of g) os))))
    ≤ weigh (handling_of g) os
stages-stack g [] = omega arith
stages-stack g (o ∷ os) = omega (arith, stages-one g o, stages-stack g os)

stages-all : (g : ℕ) (ss : List (List Op)) →
    weigh_all (looks_of g) ss
    + (weigh_all (fresh_of g) ss
    + (weigh_all (storing_of g) ss
    + (weigh_all (again_of g) ss + (weigh_all (waits_of g) ss + weigh_all (over_of g) ss))))
    ≤ weigh_all (handling_of g) ss
stages-all g [] = omega arith
stages-all g (s ∷ ss) = omega (arith, stages-stack g s, stages-all g ss)

few-one : (g k : ℕ) (o : Op) → strays_of g k o ≤ fresh_of g o + storing_of g o
few-one g k (Op.Handle (HandleOp.Register f a l)) =
    omega (arith, one-stray (eqb g f) (eqb k l) (same g f) (same-cond g f))
few-one g k (Op.Handle (HandleOp.EndRegister f a l)) =
    omega (arith, one-stray (eqb g f) (eqb k l) (same g f) (same-cond g f))
few-one g k _ = omega arith

few-stack : (g k : ℕ) (os : List Op) → weigh (strays_of g k) os ≤ weigh (fresh_of g) os + weigh (storing_of g) os
few-stack g k [] = omega arith
few-stack g k (o ∷ os) = omega (arith, few-one g k o, few-stack g k os)

few-all : (g k : ℕ) (ss : List (List Op)) →
    weigh_all (strays_of g k) ss ≤ weigh_all (fresh_of g) ss + weigh_all (storing_of g) ss
few-all g k [] = omega arith
few-all g k (s ∷ ss) = omega (arith, few-stack g k s, few-all g k ss)

footing : (s : Machine) → Good s → AllTied s → (g : ℕ) → Footing s.world g (pend g s.parties) (awaiting g s.parties)
footing s good tied g = record {
  one = (good.sound g).one;
  live = (good.sound g).live;
  ends = (good.sound g).ends;
  drop = (good.sound g).drop;
  carries = (good.sound g).carries;
  rests = (good.sound g).rests;
  lent = (good.sound g).lent;
  done = λ d. (good.sound g).over (over-dropped g s.world.trace d (good.sound g).lawful);
  stages = stages-all g s.parties;
  few = λ k. few-all g k s.parties;
  tied = tied-all g s.parties (tied g);
}

-- what holds of each count holds of all of them

awaiting-by : (g : ℕ) (ss ts : List (List Op)) (os : List Op) →
    ((v : Op → ℕ) → weigh_all v ss ≡ weigh v os + weigh_all v ts) →
    awaiting g ss ≡ with_awaiting g os (awaiting g ts)
awaiting-by g ss ts os a = λ t. record {
  handling = a (handling_of g) t;
  looks = a (looks_of g) t;
  fresh = a (fresh_of g) t;
  storing = a (storing_of g) t;
  again = a (again_of g) t;
  waits = a (waits_of g) t;
  over = a (over_of g) t;
  notices = a (notices_of g) t;
  notifying = a (notifying_of g) t;
  mine = a (mine_of g) t;
  detaches = a (detaches_of g) t;
  lending = a (lending_of g) t;
  strays = λ k. a (strays_of g k) t;
  calls = λ k. a (calls_of g k) t;
}

pub awaiting-none : (g : ℕ) (ss : List (List Op)) → ((v : Op → ℕ) → weigh_all v ss ≡ 0) →
    awaiting g ss ≡ nothing_awaited
awaiting-none g ss a = λ t. record {
  handling = a (handling_of g) t;
  looks = a (looks_of g) t;
  fresh = a (fresh_of g) t;
  storing = a (storing_of g) t;
  again = a (again_of g) t;
  waits = a (waits_of g) t;
  over = a (over_of g) t;
  notices = a (notices_of g) t;
  notifying = a (notifying_of g) t;
  mine = a (mine_of g) t;
  detaches = a (detaches_of g) t;
  lending = a (lending_of g) t;
  strays = λ k. a (strays_of g k) t;
  calls = λ k. a (calls_of g k) t;
}

split-awaiting : (g : ℕ) (ss : List (List Op)) (p : ℕ) (old rest : List Op) → p < length ss →
    get_or ss p [] ≡ rest ++ reverse old → awaiting g ss ≡ with_awaiting g old (awaiting g (set ss p rest))
split-awaiting g ss p old rest l e = awaiting-by g ss (set ss p rest) old (λ v. split v ss p old rest l e)

push-awaiting : (g : ℕ) (ss : List (List Op)) (p : ℕ) (rest next : List Op) → p < length ss →
    awaiting g (set ss p (rest ++ reverse next)) ≡ with_awaiting g next (awaiting g (set ss p rest))
push-awaiting g ss p rest next l =
    awaiting-by g (set ss p (rest ++ reverse next)) (set ss p rest) next (λ v. weigh_all-push v ss p rest next l)

-- the mark is what it is
renew : (w : World) (g : ℕ) (p : Pend) (x : Awaiting) (m : Mark) → Awaits w g p x m → Awaits w g p x (marked w g x)
renew w g p x m h =
    record {
      asking = refl;
      party = refl;
      inner = refl;
      asks = refl;
      single = h.single;
      unlent = h.unlent;
      unborn = h.unborn;
      answered = h.answered;
      comes = h.comes;
      registers = h.registers;
      registered = h.registered;
      notifies = h.notifies;
      notified = h.notified;
      either = h.either;
      covered = h.covered;
      unsettled = h.unsettled;
      over = h.over;
      parts = h.parts;
      parted = h.parted;
    }

-- a step of party p, by what it keeps of g and of its mark

module _ (s : Machine) (p : ℕ) (old rest : List Op) (d : Done) (l : p < length s.parties)
    (e : stack s p ≡ rest ++ reverse old) (h : Waited s) (g : ℕ) where
  abbrev pub others : Pend
  others = pend g (set s.parties p rest)

  abbrev pub beside : Awaiting
  beside = awaiting g (set s.parties p rest)

  abbrev pub before : Mark
  before = marked s.world g (with_awaiting g old beside)

  pub footing-here : Good s → Footing s.world g (with_ops g old others) (with_awaiting g old beside)
  footing-here good = subst (λ (x : Pend × Awaiting). Footing s.world g x.0 x.1)
      (λ i. (split-pend g s.parties p old rest l e i, split-awaiting g s.parties p old rest l e i))
      (footing s good h.tied g)

  pub awaits-here : Awaits s.world g (with_ops g old others) (with_awaiting g old beside) before
  awaits-here = subst (λ (x : Pend × Awaiting). Awaits s.world g x.0 x.1 (marked s.world g x.1))
      (λ i. (split-pend g s.parties p old rest l e i, split-awaiting g s.parties p old rest l e i)) (h.awaits g)

  pub stages-here : Stages (with_awaiting g old beside)
  stages-here = subst Stages (split-awaiting g s.parties p old rest l e) (stages-all g s.parties)

  pub awaits-pushed : (m : Mark) → Awaits d.world g (with_ops g d.next others) (with_awaiting g d.next beside) m →
      Awaits d.world g (pend g (set s.parties p (rest ++ reverse d.next)))
      (awaiting g (set s.parties p (rest ++ reverse d.next)))
      (marked d.world g (awaiting g (set s.parties p (rest ++ reverse d.next))))
  awaits-pushed m k = subst (λ (x : Pend × Awaiting). Awaits d.world g x.0 x.1 (marked d.world g x.1))
      (sym
      (let q : (pend g (set s.parties p (rest ++ reverse d.next)), awaiting g (set s.parties p (rest ++ reverse d.next)))
      ≡ (with_ops g d.next others, with_awaiting g d.next beside) =
      λ i. (push-pend g s.parties p rest d.next l i, push-awaiting g s.parties p rest d.next l i) in q))
      (renew d.world g (with_ops g d.next others) (with_awaiting g d.next beside) m k)

  -- the mark stays
  pub held-same : (o : Op) → old ≡ o ∷ [] → Passes o d.next → (m : Mark) → m ≡ before →
      Awaits d.world g (with_ops g d.next others) (with_awaiting g d.next beside) m →
      Holds (asks_of g) (open_of (heard g d.world.trace)) (set s.parties p (rest ++ reverse d.next))
  held-same o q c m u k =
      let sums : weigh (asks_of g) d.next ≡ weigh (asks_of g) old =
      omega (arith, k.asks, ap (λ (x : Mark). x.asks) u, asks-weighs g d.next, asks-weighs g old) in
      let own : weigh (asks_of g) d.next ≡ asks_of g o =
      sums ∙ (ap (weigh (asks_of g)) q ∙ (let z : asks_of g o + 0 ≡ asks_of g o = omega arith in z)) in
      let inner : (heard g d.world.trace).inner ≡ (heard g s.world.trace).inner =
      k.inner ∙ ap (λ (x : Mark). x.inner) u in
      held-step (asks_of g) (asks-calling g) (open_of (heard g s.world.trace)) (open_of (heard g d.world.trace))
      s.parties p old rest d.next l e
      (λ b. sym (k.asking ∙ ap (λ (x : Mark). x.asking) u) ∙ b)
      (k.party ∙ ap (λ (x : Mark). x.party) u)
      (λ b n. inner)
      (λ b n t. subst (λ (x : ℕ). Spotted x (seen (asks_of g) (seen (asks_of g) nowhere rest) (reverse d.next)))
      (sym inner) (subst (Spotted (heard g s.world.trace).inner)
      (ap (λ (os : List Op). seen (asks_of g) (seen (asks_of g) nowhere rest) (reverse os)) q
      ∙ seen-passes (asks_of g) (asks-calling g) (seen (asks_of g) nowhere rest) o d.next c own) t))
      (h.held g)

  -- a poll begins
  pub held-polled : (o : Op) → old ≡ o ∷ [] → calling_of o ≡ 1 → Passes o d.next → (m : Mark) → m.party ≡ p → m.inner ≡ 0 →
      m.asks ≡ suc before.asks → Awaits d.world g (with_ops g d.next others) (with_awaiting g d.next beside) m →
      Holds (asks_of g) (open_of (heard g d.world.trace)) (set s.parties p (rest ++ reverse d.next))
  held-polled o q one c m a i n k =
      held-asks (asks_of g) (asks-calling g) (open_of (heard g s.world.trace)) (open_of (heard g d.world.trace))
      s.parties p old rest d.next l e (k.party ∙ a) (k.inner ∙ i) (c.one one)
      (omega (arith, k.asks, n, asks-weighs g d.next))

  -- a call of p begins
  pub held-begun : old ≡ [] → Answering d.next →
      Awaits d.world g (with_ops g d.next others) (with_awaiting g d.next beside) (begun_in p g before) →
      Holds (asks_of g) (open_of (heard g d.world.trace)) (set s.parties p (rest ++ reverse d.next))
  held-begun q a k =
      let sums : weigh (asks_of g) (reverse d.next) ≡ 0 =
      omega (
        arith,
        k.asks,
        ap (weigh (asks_of g)) q,
        asks-weighs g d.next,
        asks-weighs g old,
        weigh-reverse (asks_of g) d.next,
      ) in
      let one : weigh calling_of (reverse d.next) ≡ 1 =
      omega (arith, counts-answering d.next a, weigh-reverse calling_of d.next) in
      held-step (asks_of g) (asks-calling g) (open_of (heard g s.world.trace)) (open_of (heard g d.world.trace))
      s.parties p old rest d.next l e
      (λ b. sym k.asking ∙ b)
      k.party
      (λ b n. k.inner ∙ apart-inner (heard g s.world.trace).asking n)
      (λ b n t.
      let here : (heard g d.world.trace).inner ≡ (heard g s.world.trace).inner + 1 =
      k.inner ∙ own-inner (heard g s.world.trace).asking (sym k.asking ∙ b) n in
      let before_it : seen (asks_of g) (seen (asks_of g) nowhere rest) (reverse old) ≡ seen (asks_of g) nowhere rest =
      ap (λ (os : List Op). seen (asks_of g) (seen (asks_of g) nowhere rest) (reverse os)) q in
      let was : Spotted (heard g s.world.trace).inner (seen (asks_of g) nowhere rest) =
      subst (Spotted (heard g s.world.trace).inner) before_it t in
      subst (Spotted (heard g d.world.trace).inner)
      (sym (seen-light (asks_of g) (seen (asks_of g) nowhere rest) (reverse d.next) sums))
      (was.0, omega (arith, was.1, here, one)))
      (h.held g)
    where
      apart-inner : (b : Bool) → (heard g s.world.trace).party ≢ p →
          (heard g s.world.trace).inner + cond b (same (heard g s.world.trace).party p) 0
          ≡ (heard g s.world.trace).inner
      apart-inner false n = omega arith
      apart-inner true n = ⊎_elim
          (λ (x : (same (heard g s.world.trace).party p ≡ 1) × (eqb (heard g s.world.trace).party p ≡ true)
          × ((heard g s.world.trace).party ≡ p)). absurd (n x.2))
          (λ (x : (same (heard g s.world.trace).party p ≡ 0) × (eqb (heard g s.world.trace).party p ≡ false)
          × ((heard g s.world.trace).party ≢ p)). omega (arith, x.0)) (same_cases (heard g s.world.trace).party p)

      own-inner : (b : Bool) → b ≡ true → (heard g s.world.trace).party ≡ p →
          (heard g s.world.trace).inner + cond b (same (heard g s.world.trace).party p) 0
          ≡ (heard g s.world.trace).inner + 1
      own-inner false x n = absurd (cc)
      own-inner true x n = ⊎_elim
          (λ (x : (same (heard g s.world.trace).party p ≡ 1) × (eqb (heard g s.world.trace).party p ≡ true)
          × ((heard g s.world.trace).party ≡ p)). omega (arith, x.0))
          (λ (x : (same (heard g s.world.trace).party p ≡ 0) × (eqb (heard g s.world.trace).party p ≡ false)
          × ((heard g s.world.trace).party ≢ p)). absurd (x.2 n)) (same_cases (heard g s.world.trace).party p)
