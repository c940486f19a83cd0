-- For ticks_are_exact, calls_at_rest_are_exact and lone_calls_are_exact.
-- A call that has found something to do isn't answered no before something else happens.
use Rattle.std.proofs.Common.{◌≡◌, ◌≢◌, ◌⊎◌, ℕ, zero, suc, ◌-◌, ◌<◌, List, [], ◌∷◌, ◌++◌, length, take, true, false, eqb, refl}
use Rattle.std.proofs.Common.{sym, ap, ◌∙◌, subst, inl, inr, ⊎_elim, arith, get_or-set_same, get_or-set_other}
use Rattle.std.specs.Prelude.{Option, Some, None, reverse, slice_get}
use Rattle.std.{proofs.Math.ListN.length-set, proofs.lemmas.List.append_assoc, proofs.lemmas.List.append_cancel_left}
use Rattle.executor_laws.proofs.Types.{Move, Reply, Event, Hold, Op, UserOp, Hint, Step, Begin, Go, StepError, UserEnd}
use Rattle.executor_model.specs.declared.step.Step.TheVariants.{Answer}
use Rattle.executor_model.specs.Steps.{Machine, stack, top, below_top, react, refusal, Part, end_of, settled_by, onto, gone_on}
use Rattle.executor_model.specs.Steps.{with_part, after, step_by, step, stepped, run}
use Rattle.executor_model.specs.{Trace.Trace, Trace.has, World.World, World.Done, Weights.same, Weights.weigh, Doing.act}
use Rattle.executor_model.proofs.Steps.TraceGrows.{Allows, Grows, grows, grows-act, grows-react}
use Rattle.executor_model.proofs.Steps.TraceSteps.{ends_one, none-ends, run-continues}
use Rattle.executor_model.proofs.{Quiet.CallsGroups.calls-act, Steps.Lists.same_cases, Steps.Lists.weigh-append}
use Rattle.executor_model.proofs.{Steps.Lists.weigh-reverse, Quiet.Calls.calling_of, Steps.Lift.topped, Steps.Tests.left-false}
use Rattle.executor_laws.proofs.Exactness.Following.{IsAlone, still-go, still-answer, wrong-answer, not-begun}
use Rattle.executor_laws.proofs.{Placement.Answering.is_end, Exactness.Finding.heads, Exactness.Finding.no-more}
use Rattle.executor_model.specs.declared.event.Answer.TheVariants as answer

abbrev yes : Hold → Op
yes held = Op.End Reply.Yes held

-- party p is inside one call, which will be answered yes, and nobody else is in one
pub record Inside (p : ℕ) (held : Hold) (s : Machine) : Type 0 where
  pub within : p < length s.parties
  pub rest : List Op
  pub here : stack s p ≡ yes held ∷ rest
  pub light : weigh calling_of rest ≡ 0
  pub others : (q : ℕ) → q ≢ p → stack s q ≡ []

-- no call ends in this, or the event is no end of a call
first-more : (more rest later : Trace) (e : Event) → has ends_one more ≡ false → more ++ rest ≡ e ∷ later →
    ((more ≡ []) × (rest ≡ e ∷ later)) ⊎ (ends_one e ≡ false)
first-more [] rest later e n k = inl (refl, k)
first-more (x ∷ more) rest later e n k = inr (sym (ap ends_one (heads x e (more ++ rest) later k))
    ∙ left-false (ends_one x) (has ends_one more) n)

no-no : (p : ℕ) (e : Event) → ends_one e ≡ false → e ≢ Event.CallEnded p Reply.No
no-no p e n k = let z : ends_one (Event.CallEnded p Reply.No) ≡ false = sym (ap ends_one k) ∙ n in absurd (cc)

yes-no : (p : ℕ) (e : Event) → e ≡ Event.CallEnded p Reply.Yes → e ≢ Event.CallEnded p Reply.No
yes-no p e a b = let z : Event.CallEnded p Reply.Yes ≡ Event.CallEnded p Reply.No = sym a ∙ b in absurd (cc)

-- what answers no call is no end of one
not-end : (o : Op) → calling_of o ≡ 0 → end_of (Some o) ≡ None
not-end (Op.End r held) z = absurd (omega (arith, z))
not-end _ z = refl

unended : (o : Op) → calling_of o ≡ 0 → is_end o ≡ false
unended (Op.End r held) z = absurd (omega (arith, z))
unended _ z = refl

-- what the thing on top does, if it answers no call
record Light (p : ℕ) (w : World) (d : Done) : Type 0 where
  grows : Grows ends_one none-ends w d.world
  none : weigh calling_of d.next ≡ 0

allows : (p : ℕ) (o : Op) → calling_of o ≡ 0 → Allows ends_one none-ends p o
allows p (Op.Move Move.TakeUp f) z = refl
allows p (Op.Steal o) z = absurd (omega (arith, z))
allows p (Op.End a held) z = absurd (omega (arith, z))
allows p _ z = tt

light-react : (p : ℕ) (o : Op) (u : UserEnd) (w : World) → calling_of o ≡ 0 → Light p w (react p o u w)
light-react p (Op.User (UserOp.Poll f)) (UserEnd.Polled answer.Pending) w z = record {
  grows = grows-react ends_one none-ends p (Op.User (UserOp.Poll f)) (UserEnd.Polled answer.Pending) w refl;
  none = refl;
}
light-react p (Op.User (UserOp.Poll f)) (UserEnd.Polled answer.Ready) w z = record {
  grows = grows-react ends_one none-ends p (Op.User (UserOp.Poll f)) (UserEnd.Polled answer.Ready) w refl;
  none = refl;
}
light-react p (Op.User (UserOp.Poll f)) UserEnd.Done w z = record { grows = grows ends_one none-ends w w refl; none = refl }
light-react p (Op.User (UserOp.PollOwn x)) u w z = absurd (omega (arith, z))
light-react p _ _ w z = record { grows = grows ends_one none-ends w w refl; none = refl }

light-act : (p : ℕ) (h : Hint) (o : Op) (w : World) → calling_of o ≡ 0 → Light p w (act p h o w)
light-act p h o w z =
    record { grows = grows-act ends_one none-ends p h o w (allows p o z); none = (calls-act p h o w (unended o z)).passes.none z }

-- the last of a list that answers no call

lightest : (n : ℕ) (os : List Op) (o : Op) → weigh calling_of os ≡ 0 → slice_get os n ≡ Some o → calling_of o ≡ 0
lightest n [] o z e = absurd (cc)
lightest zero (x ∷ os) o z e = let q : x ≡ o = cc in ap calling_of (sym q) ∙ omega (arith, z)
lightest (suc n) (x ∷ os) o z e = lightest n os o (omega (arith, z)) e

top-light : (os : List Op) (o : Op) → weigh calling_of os ≡ 0 → top os ≡ Some o → calling_of o ≡ 0
top-light os o z e = lightest (length os - 1) os o z e

light-below : (os : List Op) (o : Op) → weigh calling_of os ≡ 0 → top os ≡ Some o → weigh calling_of (below_top os) ≡ 0
light-below os o z e = omega
    (arith, z, ap (weigh calling_of) (topped os o e), weigh-append calling_of (below_top os) (o ∷ []))

-- what a thing that is done in the call leads to: the call is answered yes behind more; or there is more,
-- and the party is inside still
data NextPart (p : ℕ) (held : Hold) (w : World) (x : Part) : Type 0 where
  answered : (more : Trace) → has ends_one more ≡ false →
      x.world.trace ≡ w.trace ++ (more ++ Event.CallEnded p Reply.Yes ∷ []) →
      NextPart p held w x
  inside : (more : Trace) (rest : List Op) → has ends_one more ≡ false → x.world.trace ≡ w.trace ++ more →
      x.todo ≡ yes held ∷ rest →
      weigh calling_of rest ≡ 0 → NextPart p held w x

last-there : (o : Op) (os : List Op) → (x : Op) × (slice_get (o ∷ os) (length os) ≡ Some x)
last-there o [] = (o, refl)
last-there o (y ∷ os) = last-there y os

one-less : (n : ℕ) → suc n - 1 ≡ n
one-less n = omega arith

top-there : (o : Op) (os : List Op) → (x : Op) × (top (o ∷ os) ≡ Some x)
top-there o os = let last : (x : Op) × (slice_get (o ∷ os) (length os) ≡ Some x) = last-there o os in
    (last.0, ap (slice_get (o ∷ os)) (one-less (length os)) ∙ last.1)

-- what stands at the bottom is neither the top nor above it
top-above : (x o : Op) (os : List Op) → top (x ∷ o ∷ os) ≡ top (o ∷ os)
top-above x o os = ap (slice_get (x ∷ o ∷ os)) (one-less (suc (length os)))
    ∙ ap (slice_get (o ∷ os)) (sym (one-less (length os)))

below-above : (x o : Op) (os : List Op) → below_top (x ∷ o ∷ os) ≡ x ∷ below_top (o ∷ os)
below-above x o os = ap (λ (n : ℕ). take n (x ∷ o ∷ os)) (one-less (suc (length os)))
    ∙ ap (λ (n : ℕ). x ∷ take n (o ∷ os)) (sym (one-less (length os)))

-- the new top of the stack is the end of the call, or no end
next-settled : (p : ℕ) (held : Hold) (w : World) (d : Done) (rest : List Op) → Grows ends_one none-ends w d.world →
    weigh calling_of rest ≡ 0 →
    NextPart p held w (settled_by (end_of (top (yes held ∷ rest))) p d.world (yes held ∷ rest))
next-settled p held w d [] g z =
    answered g.more g.none (ap (λ (xs : Trace). xs ++ Event.CallEnded p Reply.Yes ∷ []) g.is
    ∙ append_assoc w.trace g.more (Event.CallEnded p Reply.Yes ∷ []))
next-settled p held w d (o ∷ os) g z =
    let last : (x : Op) × (top (o ∷ os) ≡ Some x) = top-there o os in
    let none : end_of (top (yes held ∷ o ∷ os)) ≡ None = ap end_of (top-above (yes held) o os ∙ last.1)
    ∙ not-end last.0 (top-light (o ∷ os) last.0 z last.1) in
    subst (λ (r : Option Reply). NextPart p held w (settled_by r p d.world (yes held ∷ o ∷ os))) (sym none)
    (inside g.more (o ∷ os) g.none g.is refl z)

next-onto : (p : ℕ) (held : Hold) (w : World) (d : Done) (below : List Op) → Light p w d → weigh calling_of below ≡ 0 →
    NextPart p held w (onto p d (yes held ∷ below))
next-onto p held w d below l z =
    next-settled p held w d (below ++ reverse d.next) l.grows (omega (
      arith,
      z,
      l.none,
      weigh-append calling_of below (reverse d.next),
      weigh-reverse calling_of d.next,
    ))

next-light : (p : ℕ) (held : Hold) (w : World) (d : Op → Done) (o : Op) (os : List Op) →
    ((x : Op) → calling_of x ≡ 0 → Light p w (d x)) → weigh calling_of (o ∷ os) ≡ 0 →
    NextPart p held w (gone_on p w (yes held ∷ o ∷ os) (top (yes held ∷ o ∷ os)) d)
next-light p held w d o os k z =
    let last : (x : Op) × (top (o ∷ os) ≡ Some x) = top-there o os in
    subst (λ (t : Option Op). NextPart p held w (gone_on p w (yes held ∷ o ∷ os) t d))
    (sym (top-above (yes held) o os ∙ last.1))
    (subst (λ (bs : List Op). NextPart p held w (onto p (d last.0) bs)) (sym (below-above (yes held) o os))
    (next-onto p held w (d last.0) (below_top (o ∷ os)) (k last.0 (top-light (o ∷ os) last.0 z last.1))
    (light-below (o ∷ os) last.0 z last.1)))

next-go : (p : ℕ) (held : Hold) (h : Hint) (w : World) (rest : List Op) → weigh calling_of rest ≡ 0 →
    NextPart p held w (gone_on p w (yes held ∷ rest) (top (yes held ∷ rest)) (λ o. act p h o w))
next-go p held h w [] z = answered [] refl refl
next-go p held h w (o ∷ os) z = next-light p held w (λ x. act p h x w) o os (λ x c. light-act p h x w c) z

-- of the whole machine

data Next (p : ℕ) (held : Hold) (s now : Machine) : Type 0 where
  refused : now ≡ s → Next p held s now
  answered : (more : Trace) → has ends_one more ≡ false →
      now.world.trace ≡ s.world.trace ++ (more ++ Event.CallEnded p Reply.Yes ∷ []) →
      Next p held s now
  inside : (more : Trace) → has ends_one more ≡ false → now.world.trace ≡ s.world.trace ++ more → Inside p held now →
      Next p held s now

next-made : (p : ℕ) (held : Hold) (s : Machine) (x : Part) → Inside p held s → NextPart p held s.world x →
    Next p held s (with_part s p x)
next-made p held s x i (answered more n e) = answered more n e
next-made p held s x i (inside more rest n e t z) = inside more n e (record {
  within = omega (arith, i.within, length-set s.parties p x.todo);
  rest = rest;
  here = get_or-set_same s.parties p x.todo [] i.within ∙ t;
  light = z;
  others = λ q d. get_or-set_other s.parties p q x.todo [] d ∙ i.others q d;
})

next-by : (p : ℕ) (held : Hold) (s : Machine) (t : Step) (r : Option StepError) → Next p held s (after s t) →
    Next p held s (stepped s (step_by r s t))
next-by p held s t (Some e) n = refused refl
next-by p held s t None n = n

gone : (p : ℕ) (held : Hold) (s : Machine) (h : Hint) → Inside p held s → Next p held s (stepped s (step s (Go p h)))
unfolding step
gone p held s h i = next-by p held s (Go p h) (refusal s (Go p h)) (next-made p held s _ i
    (subst (λ (os : List Op). NextPart p held s.world (gone_on p s.world os (top os) (λ o. act p h o s.world)))
    (sym i.here)
    (next-go p held h s.world i.rest i.light)))

replied : (p : ℕ) (held : Hold) (s : Machine) (u : UserEnd) → Inside p held s → (rest : List Op) →
    stack s p ≡ yes held ∷ rest →
    weigh calling_of rest ≡ 0 → Next p held s (stepped s (step s (Answer p u)))
unfolding step
replied p held s u i [] e z = refused (wrong-answer s p u (yes held) e refl)
replied p held s u i (o ∷ os) e z = next-by p held s (Answer p u) (refusal s (Answer p u)) (next-made p held s _ i
    (subst (λ (xs : List Op). NextPart p held s.world (gone_on p s.world xs (top xs) (λ y. react p y u s.world)))
    (sym e)
    (next-light p held s.world (λ y. react p y u s.world) o os
    (λ y c. light-react p y u s.world c) z)))

-- the event that comes next isn't the answer no

-- one step, and those behind it
module _ (p : ℕ) (held : Hold) (e : Event) (later : Trace) (alone : IsAlone e) (ts : List Step) (s : Machine)
    (i : Inside p held s)
    (again : (now : Machine) → Inside p held now → (run ts now).world.trace ≡ now.world.trace ++ e ∷ later →
    e ≢ Event.CallEnded p Reply.No) where
  same-trace : (now : Machine) → now ≡ s → (run ts now).world.trace ≡ s.world.trace ++ e ∷ later →
      e ≢ Event.CallEnded p Reply.No
  same-trace now z q = again s i (sym (ap (λ (m : Machine). (run ts m).world.trace) z) ∙ q)

  -- what stands behind the events of the step
  behind : (now : Machine) (more : Trace) → now.world.trace ≡ s.world.trace ++ more →
      (run ts now).world.trace ≡ s.world.trace ++ e ∷ later → more ++ (run-continues ts now).0 ≡ e ∷ later
  behind now more n q = append_cancel_left s.world.trace (more ++ (run-continues ts now).0) (e ∷ later)
      (sym (append_assoc s.world.trace more (run-continues ts now).0)
      ∙ (ap (λ (xs : Trace). xs ++ (run-continues ts now).0) (sym n) ∙ (sym (run-continues ts now).1 ∙ q)))

  by-next : (now : Machine) → Next p held s now → (run ts now).world.trace ≡ s.world.trace ++ e ∷ later →
      e ≢ Event.CallEnded p Reply.No
  by-next now (refused z) q = same-trace now z q
  by-next now (answered more n z) q =
      let b : (more ++ Event.CallEnded p Reply.Yes ∷ []) ++ (run-continues ts now).0 ≡ e ∷ later =
      behind now (more ++ Event.CallEnded p Reply.Yes ∷ []) z q in
      ⊎_elim
      (λ (x : (more ≡ []) × (Event.CallEnded p Reply.Yes ∷ (run-continues ts now).0 ≡ e ∷ later)). yes-no p e
      (sym (heads (Event.CallEnded p Reply.Yes) e (run-continues ts now).0 later x.1)))
      (λ (x : ends_one e ≡ false). no-no p e x)
      (first-more more (Event.CallEnded p Reply.Yes ∷ (run-continues ts now).0) later e n
      (sym (append_assoc more (Event.CallEnded p Reply.Yes ∷ []) (run-continues ts now).0) ∙ b))
  by-next now (inside more n z j) q = ⊎_elim
      (λ (x : (more ≡ []) × ((run-continues ts now).0 ≡ e ∷ later)). again now j ((run-continues ts now).1
      ∙ ap (λ (xs : Trace). now.world.trace ++ xs) x.1))
      (λ (x : ends_one e ≡ false). no-no p e x)
      (first-more more (run-continues ts now).0 later e n (behind now more z q))

  by-step : (t : Step) → (run ts (stepped s (step s t))).world.trace ≡ s.world.trace ++ e ∷ later →
      e ≢ Event.CallEnded p Reply.No
  by-step (Begin q d) k = same-trace (stepped s (step s (Begin q d))) (not-begun s q d ts e later alone k) k
  by-step (Go q h) k = ⊎_elim
      (λ (x : (same q p ≡ 1) × (eqb q p ≡ true) × (q ≡ p)). by-next (stepped s (step s (Go q h)))
      (subst (λ (n : ℕ). Next p held s (stepped s (step s (Go n h)))) (sym x.2) (gone p held s h i)) k)
      (λ (x : (same q p ≡ 0) × (eqb q p ≡ false) × (q ≢ p)). same-trace (stepped s (step s (Go q h)))
      (still-go s q h (i.others q x.2)) k)
      (same_cases q p)
  by-step (Answer q u) k = ⊎_elim
      (λ (x : (same q p ≡ 1) × (eqb q p ≡ true) × (q ≡ p)). by-next (stepped s (step s (Answer q u)))
      (subst (λ (n : ℕ). Next p held s (stepped s (step s (Answer n u)))) (sym x.2)
      (replied p held s u i i.rest i.here i.light)) k)
      (λ (x : (same q p ≡ 0) × (eqb q p ≡ false) × (q ≢ p)). same-trace (stepped s (step s (Answer q u)))
      (still-answer s q u (i.others q x.2)) k)
      (same_cases q p)

pub not-no : (p : ℕ) (held : Hold) (e : Event) (later : Trace) → IsAlone e → (ts : List Step) (s : Machine) →
    Inside p held s →
    (run ts s).world.trace ≡ s.world.trace ++ e ∷ later → e ≢ Event.CallEnded p Reply.No
not-no p held e later alone [] s i k = absurd (no-more s.world.trace later e k)
not-no p held e later alone (t ∷ ts) s i k =
    by-step p held e later alone ts s i (λ now j q. not-no p held e later alone ts now j q) t k
