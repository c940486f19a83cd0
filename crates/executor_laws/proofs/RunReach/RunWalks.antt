-- For runs_reach_futures, kept_futures_are_in_reach and dropped_runs_leave_common_futures.
-- From where a run has something in hand to where that is taken up.
use Rattle.std.proofs.Common.{◌≡◌, ◌⊎◌, ◌∙◌, inl, inr, ⊎_elim, ℕ, ◌<◌, List, [], ◌∷◌, ◌++◌, length, true, false}
use Rattle.std.proofs.Common.{refl, sym, ap, subst, arith, append-nil, append_assoc, Ok}
use Rattle.std.proofs.lemmas.List.{append_cancel_right, reverse-append}
use Rattle.std.proofs.lemmas.List.Folds.{list_any-append}
use Rattle.std.specs.Prelude.{Option, Some, None, reverse}
use Rattle.executor_laws.proofs.Types.{Move, Reply, Op, StealOp, UserOp, Hint, Step, Begin, Go, UserEnd}
use Rattle.executor_model.specs.{declared.step.Step.TheVariants.Answer, Doing.act, Executions.run_all, Steps.Machine, Steps.Part}
use Rattle.executor_model.specs.{Steps.accepts, Steps.answer_refusal, Steps.below_top, Steps.end_of, Steps.go_refusal, Steps.gone_on}
use Rattle.executor_model.specs.{Steps.onto, Steps.after, Steps.part, Steps.part_after, Steps.react, Steps.run, Steps.settled_by}
use Rattle.executor_model.specs.{Steps.stack, Steps.top, Steps.waits, Steps.with_part, Trace.Trace, Trace.has, Weights.weigh, World.Done}
use Rattle.executor_model.specs.{World.World, World.among}
use Rattle.executor_model.proofs.{Steps.Lift.topped, Steps.Lists.weigh-append, Steps.Lists.weigh-reverse, Table.Spawning.top-last}
use Rattle.executor_model.proofs.{Steps.TraceSteps.IsContinued, Steps.TraceSteps.More, Steps.TraceSteps.more-onto}
use Rattle.executor_model.proofs.{Steps.TraceSteps.run-continues, Steps.Reached.Reached, Steps.Reached.reached-step}
use Rattle.executor_model.proofs.{Steps.Reached.run-first, Steps.Reached.run-of, Steps.Tests.or-left, Steps.Tests.or-right}
use Rattle.executor_laws.specs.{LoneEnds.are_onward_of, LoneEnds.is_onward_of, Reach.takes}
use Rattle.executor_laws.proofs.Reach.LoneMoves.{Inner, inner-act, inner-react, stray_of}
use Rattle.executor_laws.proofs.Reach.LoneSteps.{Advances, HasEntry, Last, Leads, Next, advances, answers, from-end, goes}
use Rattle.executor_laws.proofs.Reach.LoneTicks.{OfParty, after-is, left-true, of-party, stack-set}
use Rattle.executor_laws.proofs.RunReach.RunFinds.{Heading, Heads, Steals, heads-steal, no-end}
use Rattle.executor_laws.proofs.RunReach.RunFinds.Heading.{stealing, taking}

-- the next step of party p, which alone takes steps: it does the thing on top, or user code answers there
pub data Onward (p : ℕ) (s new : Machine) (below : List Op) (o : Op) (ts : List Step) : Type 0 where
  acted : (h : Hint) (others : List Step) → ts ≡ Go p h ∷ others → waits o ≡ false →
      Reached (with_part s p (onto p (act p h o s.world) below)) →
      run_all others (with_part s p (onto p (act p h o s.world) below)) ≡ Ok new → are_onward_of p others ≡ true →
      p < length s.parties → Onward p s new below o ts
  answered : (u : UserEnd) (others : List Step) → ts ≡ Answer p u ∷ others → accepts o u ≡ true →
      Reached (with_part s p (onto p (react p o u s.world) below)) →
      run_all others (with_part s p (onto p (react p o u s.world) below)) ≡ Ok new → are_onward_of p others ≡ true →
      p < length s.parties → Onward p s new below o ts

below-is : (os below : List Op) (o : Op) → os ≡ below ++ o ∷ [] → (top os ≡ Some o) × (below_top os ≡ below)
below-is os below o e =
    let t : top os ≡ Some o = ap top e ∙ top-last below o in
    (t, append_cancel_right (below_top os) below (o ∷ []) (sym (topped os o t) ∙ e))

pub not-nil : (below : List Op) (o : Op) → below ++ o ∷ [] ≡ [] → ⊥
not-nil [] o e = absurd (cc)
not-nil (x ∷ below) o e = absurd (cc)

pub onward : (p : ℕ) (s new : Machine) (below : List Op) (o : Op) (ts : List Step) → stack s p ≡ below ++ o ∷ [] →
    Reached s → stack new p ≡ [] → are_onward_of p ts ≡ true → run_all ts s ≡ Ok new → Onward p s new below o ts
onward p s new below o [] e y z on n =
    let same : s ≡ new = cc in
    absurd (not-nil below o (sym e ∙ (ap (λ (m : Machine). stack m p) same ∙ z)))
onward p s new below o (Begin q c ∷ ts) e y z on n = absurd (cc)
onward p s new below o (Go q h ∷ ts) e y z on n =
    let k : _ = left-true (is_onward_of p (Go q h)) (are_onward_of p ts) on in
    let j : _ = run-first (Go q h) ts s new n in
    let m : OfParty p s (Go q h) = of-party p s (Go q h) k.0 j.0 in
    let b : _ = below-is (stack s p) below o e in
    let gone : part_after s.world (stack s p) (Go q h) ≡ onto p (act p h o s.world) below =
    ap (λ (i : ℕ). part_after s.world (stack s p) (Go i h)) m.0
    ∙ (ap (λ (x : Option Op). gone_on p s.world (stack s p) x (λ v. act p h v s.world)) b.0
    ∙ ap (onto p (act p h o s.world)) b.1) in
    let there : after s (Go q h) ≡ with_part s p (onto p (act p h o s.world) below) =
    after-is p s (Go q h) m.0 ∙ ap (with_part s p) gone in
    acted h ts (ap (λ (i : ℕ). Go i h ∷ ts) m.0) (goes s.world o (sym (ap (go_refusal s.world) b.0) ∙ m.2))
    (subst Reached there (reached-step s (Go q h) j.0 y)) (sym (ap (run_all ts) there) ∙ j.1) k.1 m.1
onward p s new below o (Answer q u ∷ ts) e y z on n =
    let k : _ = left-true (is_onward_of p (Answer q u)) (are_onward_of p ts) on in
    let j : _ = run-first (Answer q u) ts s new n in
    let m : OfParty p s (Answer q u) = of-party p s (Answer q u) k.0 j.0 in
    let b : _ = below-is (stack s p) below o e in
    let gone : part_after s.world (stack s p) (Answer q u) ≡ onto p (react p o u s.world) below =
    ap (λ (i : ℕ). part_after s.world (stack s p) (Answer i u)) m.0
    ∙ (ap (λ (x : Option Op). gone_on p s.world (stack s p) x (λ v. react p v u s.world)) b.0
    ∙ ap (onto p (react p o u s.world)) b.1) in
    let there : after s (Answer q u) ≡ with_part s p (onto p (react p o u s.world) below) =
    after-is p s (Answer q u) m.0 ∙ ap (with_part s p) gone in
    answered u ts (ap (λ (i : ℕ). Answer i u ∷ ts) m.0)
    (answers o u (sym (ap (λ (x : Option Op). answer_refusal x u) b.0) ∙ m.2))
    (subst Reached there (reached-step s (Answer q u) j.0 y)) (sym (ap (run_all ts) there) ∙ j.1) k.1 m.1

-- f is in hand, or on its way
data Near (f : ℕ) (os : List Op) : Type 0 where
  heading : Heading f os → Near f os
  nearing : (under : List Op) (o : Op) → os ≡ under ++ o ∷ [] → Next f o → Near f os

-- the poll or the drop of f has begun since
pub record Taken (f : ℕ) (before now : Trace) : Type 0 where
  pub events : Trace
  pub is : now ≡ before ++ events
  pub taken : has (takes f) events ≡ true

-- it stays so
taken-more : (f : ℕ) (before now later more : Trace) → Taken f before now → later ≡ now ++ more → Taken f before later
taken-more f before now later more k e = record {
  events = k.events ++ more;
  is = e ∙ (ap (λ (es : Trace). es ++ more) k.is ∙ append_assoc before k.events more);
  taken = list_any-append (takes f) k.events more ∙ or-left _ _ k.taken;
}

taken-after : (f : ℕ) (before : Trace) (ts : List Step) (s new : Machine) → run_all ts s ≡ Ok new →
    Taken f before s.world.trace → Taken f before new.world.trace
taken-after f before ts s new n k =
    let on : IsContinued s.world.trace (run ts s).world.trace = run-continues ts s in
    taken-more f before s.world.trace new.world.trace on.0 k
    (sym (ap (λ (m : Machine). m.world.trace) (run-of ts s new n)) ∙ on.1)

-- user code isn't on the way

no-answer : (f : ℕ) (o : Op) (u : UserEnd) → accepts o u ≡ true → Next f o → ⊥
no-answer f (Op.User (UserOp.Poll g)) u a k = k
no-answer f (Op.User (UserOp.Drop g)) u a k = k
no-answer f (Op.User (UserOp.DropOutput g)) u a k = k
no-answer f (Op.User (UserOp.CallOutside x)) u a k = k
no-answer f (Op.User (UserOp.PollOwn x)) u a k = k
no-answer f (Op.User (UserOp.DropOwn x)) u a k = k
no-answer f _ u a k = absurd (cc)

pub with-heading : (p f : ℕ) (d : Done) (below : List Op) → Heading f (below ++ reverse d.next) →
    onto p d below ≡ part d.world (below ++ reverse d.next)
with-heading p f d below h =
    ap (λ (x : Option Reply). settled_by x p d.world (below ++ reverse d.next)) (no-end f (below ++ reverse d.next) h)

next-no-end : (f : ℕ) (o : Op) → Next f o → end_of (Some o) ≡ None
next-no-end f (Op.End a held) z = absurd z
next-no-end f _ z = refl

pub light : (side below : List Op) (o : Op) → side ≡ below ++ o ∷ [] → weigh stray_of side ≡ 0 →
    (weigh stray_of below ≡ 0) × (stray_of o ≡ 0)
light side below o e z = (
  omega (arith, z, ap (weigh stray_of) e, weigh-append stray_of below (o ∷ [])),
  omega (
    arith,
    z,
    ap (weigh stray_of) e,
    weigh-append stray_of below (o ∷ []),
  ),
)

pub both-light : (xs ys : List Op) → weigh stray_of xs ≡ 0 → weigh stray_of ys ≡ 0 → weigh stray_of (xs ++ ys) ≡ 0
both-light xs ys a b = omega (arith, a, b, weigh-append stray_of xs ys)

module _ (p f : ℕ) (before : Trace) (new : Machine) (idle : stack new p ≡ [])
    (entry : (s : Machine) → Reached s → s.world.gone ≡ false → (meanwhile : Trace) →
    s.world.trace ≡ before ++ meanwhile → HasEntry f s.world meanwhile) where
  -- how far the machine is
  record Far (w : World) : Type 0 where
    pub meanwhile : Trace
    pub trace : w.trace ≡ before ++ meanwhile
    pub there : w.gone ≡ false

  far-more : (w v : World) (es : Trace) → Far w → v.trace ≡ w.trace ++ es → v.gone ≡ w.gone → Far v
  far-more w v es k e g = record {
    meanwhile = k.meanwhile ++ es;
    trace = e ∙ (ap (λ (xs : Trace). xs ++ es) k.trace ∙ append_assoc before k.meanwhile es);
    there = g ∙ k.there;
  }

  -- the party takes the next of these steps
  module _ (t : Step) (ts : List Step) (s : Machine) (y : Reached s) (k : Far s.world)
      (on : are_onward_of p (t ∷ ts) ≡ true) (n : run_all (t ∷ ts) s ≡ Ok new)
      (further : (m : Machine) → Reached m → Far m.world → Near f (stack m p) → are_onward_of p ts ≡ true →
      run_all ts m ≡ Ok new → Taken f before new.world.trace) where
    again : (others : List Step) (m : Machine) → ts ≡ others → Reached m → Far m.world → Near f (stack m p) →
        are_onward_of p others ≡ true → run_all others m ≡ Ok new → Taken f before new.world.trace
    again others m q y2 k2 near2 on2 n2 =
        further m y2 k2 near2 (ap (are_onward_of p) q ∙ on2) (ap (λ (xs : List Step). run_all xs m) q ∙ n2)

    -- the party has this to do now
    heads-on : (others : List Step) (d : Done) (below : List Op) (es : Trace) → ts ≡ others →
        d.world.trace ≡ s.world.trace ++ es → d.world.gone ≡ s.world.gone → Heading f (below ++ reverse d.next) →
        Reached (with_part s p (onto p d below)) → run_all others (with_part s p (onto p d below)) ≡ Ok new →
        are_onward_of p others ≡ true → p < length s.parties → Taken f before new.world.trace
    heads-on others d below es e t2 g h y2 n2 on2 l =
        let q : onto p d below ≡ part d.world (below ++ reverse d.next) = with-heading p f d below h in
        again others (with_part s p (part d.world (below ++ reverse d.next))) e
        (subst (λ (x : Part). Reached (with_part s p x)) q y2)
        (far-more s.world d.world es k t2 g)
        (heading (subst (Heading f) (sym (stack-set p s (part d.world (below ++ reverse d.next)) l)) h)) on2
        (sym (ap (λ (x : Part). run_all others (with_part s p x)) q) ∙ n2)

    others-are : (x : Step) (others : List Step) → t ∷ ts ≡ x ∷ others → ts ≡ others
    others-are x others e = cc

    -- what is on top leads on, below it is the rest
    by-side : (below : List Op) (o : Op) → stray_of o ≡ 0 → stack s p ≡ below ++ o ∷ [] →
        ((next : List Op) → weigh stray_of next ≡ 0 → Heading f (below ++ next)) → Taken f before new.world.trace
    by-side below o z e h = go (onward p s new below o (t ∷ ts) e y idle on n)
      where
        go : Onward p s new below o (t ∷ ts) → Taken f before new.world.trace
        go (acted g others te w y2 n2 on2 l) =
            let i : Inner s.world (act p g o s.world) = inner-act p g o s.world w z in
            heads-on others (act p g o s.world) below i.events (others-are _ others te) i.trace i.there
            (h (reverse (act p g o s.world).next)
            (weigh-reverse stray_of (act p g o s.world).next ∙ i.plain)) y2 n2 on2 l
        go (answered u others te a y2 n2 on2 l) =
            let i : Inner s.world (react p o u s.world) = inner-react p o u s.world a z in
            heads-on others (react p o u s.world) below i.events (others-are _ others te) i.trace i.there
            (h (reverse (react p o u s.world).next)
            (weigh-reverse stray_of (react p o u s.world).next ∙ i.plain)) y2 n2 on2 l

    -- it has come this far, and the poll or the drop of f hasn't begun
    leads-on : (others : List Step) (d : Done) (under : List Op) → ts ≡ others → (i : Inner s.world d) → Leads f d →
        Reached (with_part s p (onto p d under)) → run_all others (with_part s p (onto p d under)) ≡ Ok new →
        are_onward_of p others ≡ true → p < length s.parties → Taken f before new.world.trace
    leads-on others d under e i x y2 n2 on2 l =
        let turned : under ++ reverse d.next ≡ (under ++ reverse x.others) ++ x.first ∷ [] =
        ap (λ (os : List Op). under ++ reverse os) x.is
        ∙ (ap (λ (os : List Op). under ++ os) (reverse-append (x.first ∷ []) x.others)
        ∙ sym (append_assoc under (reverse x.others) (x.first ∷ []))) in
        let q : onto p d under ≡ part d.world (under ++ reverse d.next) =
        ap (λ (v : Option Reply). settled_by v p d.world (under ++ reverse d.next))
        (ap (λ (os : List Op). end_of (top os)) turned
        ∙ (ap end_of (top-last (under ++ reverse x.others) x.first) ∙ next-no-end f x.first x.next)) in
        again others (with_part s p (part d.world (under ++ reverse d.next))) e
        (subst (λ (v : Part). Reached (with_part s p v)) q y2)
        (far-more s.world d.world i.events k i.trace i.there)
        (nearing (under ++ reverse x.others) x.first
        (stack-set p s (part d.world (under ++ reverse d.next)) l ∙ turned) x.next) on2
        (sym (ap (λ (v : Part). run_all others (with_part s p v)) q) ∙ n2)

    -- it has begun
    taken-by : (others : List Step) (d : Done) (under : List Op) → (i : Inner s.world d) →
        has (takes f) i.events ≡ true → run_all others (with_part s p (onto p d under)) ≡ Ok new →
        Taken f before new.world.trace
    taken-by others d under i x n2 =
        let m : More d.world.trace (onto p d under).world.trace = more-onto d.world.trace p d under
        (record { more = []; is = sym (append-nil d.world.trace); none = refl }) in
        let now : Far d.world = far-more s.world d.world i.events k i.trace i.there in
        taken-after f before others (with_part s p (onto p d under)) new n2
        (taken-more f before d.world.trace (onto p d under).world.trace m.more
        (record {
          events = k.meanwhile ++ i.events;
          is = i.trace ∙ (ap (λ (xs : Trace). xs ++ i.events) k.trace ∙ append_assoc before k.meanwhile i.events);
          taken = list_any-append (takes f) k.meanwhile i.events ∙ or-right _ _ x;
        }) m.is)

    -- the poll or the drop of f comes nearer
    by-next : (under : List Op) (o : Op) → stack s p ≡ under ++ o ∷ [] → Next f o → Taken f before new.world.trace
    by-next under o e h = by-entry (entry s y k.there k.meanwhile k.trace)
      where
        go : among f s.world.table ≡ true → Onward p s new under o (t ∷ ts) → Taken f before new.world.trace
        go x (answered u others te a y2 n2 on2 l) = absurd (no-answer f o u a h)
        go x (acted g others te w y2 n2 on2 l) =
            let a : Advances f s.world (act p g o s.world) = advances p f g o s.world x h in
            ⊎_elim
            (λ (z : has (takes f) a.inner.events ≡ true). taken-by others (act p g o s.world) under a.inner z n2)
            (λ (z : Leads f (act p g o s.world)).
            leads-on others (act p g o s.world) under (others-are _ others te) a.inner z y2 n2 on2 l)
            a.stage

        by-entry : HasEntry f s.world k.meanwhile → Taken f before new.world.trace
        by-entry (inl x) =
            taken-after f before (t ∷ ts) s new n (record { events = k.meanwhile; is = k.trace; taken = x })
        by-entry (inr x) = go x (onward p s new under o (t ∷ ts) e y idle on n)

    -- the steal itself
    by-steal : (o : StealOp) → stack s p ≡ Op.Steal o ∷ [] → Steals f o → Taken f before new.world.trace
    by-steal o e h = go (onward p s new [] (Op.Steal o) (t ∷ ts) e y idle on n)
      where
        go : Onward p s new [] (Op.Steal o) (t ∷ ts) → Taken f before new.world.trace
        go (answered u others te a y2 n2 on2 l) = absurd (cc)
        go (acted g others te w y2 n2 on2 l) =
            let x : Heads f s.world.trace s.world.gone (act p g (Op.Steal o) s.world) = heads-steal f p o s.world h in
            heads-on others (act p g (Op.Steal o) s.world) [] x.events (others-are _ others te) x.trace x.there
            x.heading y2 n2 on2 l

    steal-near : (o : StealOp) (side : List Op) → stack s p ≡ Op.Steal o ∷ side → Steals f o →
        weigh stray_of side ≡ 0 → Taken f before new.world.trace
    steal-near o side e h z = go (from-end side)
      where
        go : (side ≡ []) ⊎ Last side → Taken f before new.world.trace
        go (inl x) = by-steal o (e ∙ ap (λ (os : List Op). Op.Steal o ∷ os) x) h
        go (inr x) = let b : _ = light side x.below x.last x.is z in
            by-side (Op.Steal o ∷ x.below) x.last b.1 (e ∙ ap (λ (os : List Op). Op.Steal o ∷ os) x.is)
            (λ next z2. stealing o (x.below ++ next) refl h (both-light x.below next b.0 z2))

    take-near : (c : Op) (side : List Op) → stack s p ≡ c ∷ Op.Move Move.TakeUp f ∷ side → weigh stray_of side ≡ 0 →
        Taken f before new.world.trace
    take-near c side e z = go (from-end side)
      where
        go : (side ≡ []) ⊎ Last side → Taken f before new.world.trace
        go (inl x) = by-next (c ∷ []) (Op.Move Move.TakeUp f)
            (e ∙ ap (λ (os : List Op). c ∷ Op.Move Move.TakeUp f ∷ os) x) refl
        go (inr x) = let b : _ = light side x.below x.last x.is z in
            by-side (c ∷ Op.Move Move.TakeUp f ∷ x.below) x.last b.1
            (e ∙ ap (λ (os : List Op). c ∷ Op.Move Move.TakeUp f ∷ os) x.is)
            (λ next z2. taking c (x.below ++ next) refl (both-light x.below next b.0 z2))

    by-near : Near f (stack s p) → Taken f before new.world.trace
    by-near (nearing under o e h) = by-next under o e h
    by-near (heading (stealing o side e h z)) = steal-near o side e h z
    by-near (heading (taking c side e z)) = take-near c side e z

  walks : (ts : List Step) (s : Machine) → Reached s → Far s.world → Near f (stack s p) →
      are_onward_of p ts ≡ true → run_all ts s ≡ Ok new → Taken f before new.world.trace
  walks [] s y k (heading (stealing o side e h z)) on n =
      let same : s ≡ new = cc in
      let no : Op.Steal o ∷ side ≡ [] = sym e ∙ (ap (λ (m : Machine). stack m p) same ∙ idle) in absurd (cc)
  walks [] s y k (heading (taking c side e z)) on n =
      let same : s ≡ new = cc in
      let no : c ∷ Op.Move Move.TakeUp f ∷ side ≡ [] = sym e ∙ (ap (λ (m : Machine). stack m p) same ∙ idle) in
      absurd (cc)
  walks [] s y k (nearing under o e h) on n =
      let same : s ≡ new = cc in
      absurd (not-nil under o (sym e ∙ (ap (λ (m : Machine). stack m p) same ∙ idle)))
  walks (t ∷ ts) s y k near on n = by-near t ts s y k on n (λ m y2 k2 near2 on2 n2. walks ts m y2 k2 near2 on2 n2) near

  -- from where the run has it in hand
  pub from-heading : (ts : List Step) (s : Machine) → Reached s → (meanwhile : Trace) →
      s.world.trace ≡ before ++ meanwhile → s.world.gone ≡ false → Heading f (stack s p) → are_onward_of p ts ≡ true →
      run_all ts s ≡ Ok new → Taken f before new.world.trace
  from-heading ts s y meanwhile t g h on n =
      walks ts s y (record { meanwhile = meanwhile; trace = t; there = g }) (heading h) on n
