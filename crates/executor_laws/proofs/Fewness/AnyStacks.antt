-- For runs_take_few_futures.
-- Of any poll of a run: what a step of its party leaves of it on the party's stack, below what calls inside of it have to do,
-- and how many futures the step takes up.
use Rattle.std.proofs.Common.{◌≡◌, ◌≢◌, ◌⊎◌, ◌∙◌, inl, inr, ⊎_elim, ℕ, zero, suc, ◌+◌, ◌-◌, ◌<◌, ◌≤◌, List, [], ◌∷◌, ◌++◌}
use Rattle.std.proofs.Common.{length, get_or, cond, Bool, true, false, ◌&&◌, eqb, refl, sym, ap, subst, arith, append-nil}
use Rattle.std.specs.Prelude.{Option, Some, None, reverse}
use Rattle.std.{proofs.Common.append_assoc, proofs.Common.length-append, proofs.lemmas.Bool.Decides.nat_tests}
use Rattle.executor_laws.proofs.Types.{Move, Call, Reply, Event, Hold, Op, Hint, Step, Begin, Go, StepError, Busy, UserEnd}
use Rattle.executor_model.specs.declared.step.Step.TheVariants.{Answer}
use Rattle.executor_model.specs.Steps.{Part, accepts, answer_refusal, begin_refusal, begun, below_top, end_of, go_refusal}
use Rattle.executor_model.specs.Steps.{gone_on, mine, onto, part, part_after, part_refusal, party_of, react, settled}
use Rattle.executor_model.specs.{Steps.settled_by, Steps.top, Steps.unless, Steps.waits, Doing.act, Rows.running_of}
use Rattle.executor_model.specs.{Weights.weigh, Weights.weigh_all, World.Done, World.World, World.log}
use Rattle.executor_laws.specs.RunTakes.{depth, takes_up, user_of}
use Rattle.executor_model.proofs.Steps.Lists.{weigh-append, weigh-reverse}
use Rattle.executor_model.proofs.{Quiet.Calls.is_end, Steps.Lift.topped, Table.Spawning.top-last}
use Rattle.executor_laws.proofs.Fewness.AnySteps.{Beside, Comes, Owns, beside-act, beside-no-end, beside-react, beside_of}
use Rattle.executor_laws.proofs.Fewness.AnySteps.{budget-kept, owns-act, owns-no-up, owns-react, owns-uses}
use Rattle.executor_laws.proofs.Fewness.AnySteps.Comes.{on as comes_on, over as comes_over}
use Rattle.executor_laws.proofs.Fewness.FewSides.{react-same, ups}
use Rattle.executor_laws.proofs.Fewness.Untaken.{Untaken, untaken, untaken-begun}
use Rattle.executor_laws.proofs.Reach.LoneSteps.{Last, answers, from-end, goes}
use Rattle.executor_laws.proofs.{Fewness.FewSteps.Ready, Fewness.FewSteps.budget, RunReach.RunWalks.not-nil}

-- lists by their ends

pub unsnoc : (xs ys : List Op) (x y : Op) → xs ++ x ∷ [] ≡ ys ++ y ∷ [] → (xs ≡ ys) × (x ≡ y)
unsnoc [] [] x y e = (refl, cc)
unsnoc [] (b ∷ ys) x y e = let q : ys ++ y ∷ [] ≡ [] = cc in absurd (not-nil ys y q)
unsnoc (a ∷ xs) [] x y e = let q : xs ++ x ∷ [] ≡ [] = cc in absurd (not-nil xs x q)
unsnoc (a ∷ xs) (b ∷ ys) x y e =
    let q : xs ++ x ∷ [] ≡ ys ++ y ∷ [] = cc in
    let i : a ≡ b = cc in
    let r : _ = unsnoc xs ys x y q in
    (ap (λ (z : Op). z ∷ xs) i ∙ ap (λ (zs : List Op). b ∷ zs) r.0, r.1)

pub below-is : (os below : List Op) (o : Op) → os ≡ below ++ o ∷ [] → (top os ≡ Some o) × (below_top os ≡ below)
below-is os below o e =
    let t : top os ≡ Some o = ap top e ∙ top-last below o in
    (t, (unsnoc (below_top os) below o o (sym (topped os o t) ∙ e)).0)

-- user code is the last of these
pub record Stands (os : List Op) : Type 0 where
  pub below : List Op
  pub last : Op
  pub is : os ≡ below ++ last ∷ []
  pub waiting : waits last ≡ true

-- what is left of a poll of run q, above these things: it may take n more futures up, and above it calls that began inside have
-- to do what they have; or it is over
pub data Stays (q : ℕ) (old : List Op) (n : ℕ) (w : World) (os : List Op) : Type 0 where
  going : (c : Op) (side above : List Op) → os ≡ (old ++ c ∷ side) ++ above → Owns q c → weigh beside_of side ≡ 0 →
      weigh ups side + budget q c w ≤ n → (above ≡ []) ⊎ Stands (c ∷ side) → Stays q old n w os
  over : length os ≤ length old → Stays q old n w os

abbrev pub StaysIn : ℕ → List Op → ℕ → Part → Type 0
StaysIn q old n x = Stays q old n x.world x.todo

-- a call ends whose end is all that is left of it
pub data Settles (p : ℕ) (w : World) (os : List Op) : Type 0 where
  same : settled p w os ≡ part w os → Settles p w os
  ends : (a : Reply) (held : Hold) (below : List Op) → os ≡ below ++ Op.End a held ∷ [] →
      settled p w os ≡ part (log w (Event.CallEnded p a)) below → Settles p w os

pub settles : (p : ℕ) (w : World) (os : List Op) → Settles p w os
settles p w os = by (top os) refl
  where
    by : (o : Option Op) → top os ≡ o → Settles p w os
    by None e = same (ap (λ (x : Option Op). settled_by (end_of x) p w os) e)
    by (Some (Op.End a held)) e = ends a held (below_top os) (topped os (Op.End a held) e)
        (ap (λ (x : Option Op). settled_by (end_of x) p w os) e)
    by (Some o) e = other o e
      where
        other : (o : Op) → top os ≡ Some o → Settles p w os
        other (Op.End a held) e = ends a held (below_top os) (topped os (Op.End a held) e)
            (ap (λ (x : Option Op). settled_by (end_of x) p w os) e)
        other _ e = same (ap (λ (x : Option Op). settled_by (end_of x) p w os) e)

module _ (q : ℕ) (old : List Op) (n p : ℕ) (w : World) where
  -- of the poll itself
  ends-itself : (c : Op) (side : List Op) → Owns q c → weigh beside_of side ≡ 0 → (a : Reply) (held : Hold) (below : List Op) →
      old ++ c ∷ side ≡ below ++ Op.End a held ∷ [] → length below ≤ length old
  ends-itself c side k z a held below e = go (from-end side)
    where
      go : (side ≡ []) ⊎ Last side → length below ≤ length old
      go (inl i) =
          let j : old ++ c ∷ [] ≡ below ++ Op.End a held ∷ [] = sym (ap (λ (os : List Op). old ++ c ∷ os) i) ∙ e in
          omega (arith, ap (λ (os : List Op). length os) (unsnoc old below c (Op.End a held) j).0)
      go (inr v) =
          let j : (old ++ c ∷ v.below) ++ v.last ∷ [] ≡ below ++ Op.End a held ∷ [] =
          append_assoc old (c ∷ v.below) (v.last ∷ [])
          ∙ (sym (ap (λ (os : List Op). old ++ c ∷ os) v.is) ∙ e) in
          let i : v.last ≡ Op.End a held = (unsnoc (old ++ c ∷ v.below) below v.last (Op.End a held) j).1 in
          let u : beside_of v.last ≡ 0 = omega (arith, z, ap (weigh beside_of) v.is, weigh-append beside_of v.below (v.last ∷ [])) in
          let no : true ≡ false = sym (ap is_end i) ∙ beside-no-end v.last u in absurd (cc)

  settled-stays : (c : Op) (side above : List Op) → Owns q c → weigh beside_of side ≡ 0 →
      weigh ups side + budget q c w ≤ n → (above ≡ []) ⊎ Stands (c ∷ side) →
      StaysIn q old n (settled p w ((old ++ c ∷ side) ++ above))
  settled-stays c side above k z l st = by (settles p w ((old ++ c ∷ side) ++ above))
    where
      by : Settles p w ((old ++ c ∷ side) ++ above) → StaysIn q old n (settled p w ((old ++ c ∷ side) ++ above))
      by (same e) = subst (StaysIn q old n) (sym e) (going c side above refl k z l st)
      by (ends a held below i e) = subst (StaysIn q old n) (sym e) (go (from-end above))
        where
          go : (above ≡ []) ⊎ Last above → Stays q old n (log w (Event.CallEnded p a)) below
          go (inl x) =
              let j : old ++ c ∷ side ≡ below ++ Op.End a held ∷ [] =
              sym (ap (λ (os : List Op). (old ++ c ∷ side) ++ os) x ∙ append-nil (old ++ c ∷ side)) ∙ i in
              over (ends-itself c side k z a held below j)
          go (inr x) =
              let j : ((old ++ c ∷ side) ++ x.below) ++ x.last ∷ [] ≡ below ++ Op.End a held ∷ [] =
              append_assoc (old ++ c ∷ side) x.below (x.last ∷ [])
              ∙ (sym (ap (λ (os : List Op). (old ++ c ∷ side) ++ os) x.is) ∙ i) in
              going c side x.below (sym (unsnoc ((old ++ c ∷ side) ++ x.below) below x.last (Op.End a held) j).0) k z
              (omega (arith, l, budget-kept q c w (log w (Event.CallEnded p a)) (λ y. refl))) (stands st)
            where
              stands : (above ≡ []) ⊎ Stands (c ∷ side) → (x.below ≡ []) ⊎ Stands (c ∷ side)
              stands (inl y) = absurd (not-nil x.below x.last (sym x.is ∙ y))
              stands (inr y) = inr y

  settled-shorter : (os : List Op) → length os ≤ length old → StaysIn q old n (settled p w os)
  settled-shorter os l = by (settles p w os)
    where
      by : Settles p w os → StaysIn q old n (settled p w os)
      by (same e) = subst (StaysIn q old n) (sym e) (over l)
      by (ends a held below i e) = subst (StaysIn q old n) (sym e)
          (over (omega (arith, l, ap (λ (xs : List Op). length xs) i, length-append below (Op.End a held ∷ []))))

-- what counts

pub not-mine : (p : ℕ) (k : Option StepError) (t : Step) (o : Option Op) → party_of t ≢ p → takes_up k p t o ≡ false
not-mine p None (Go q h) (Some (Op.Move Move.TakeUp f)) n = grind (arith, nat_tests)
not-mine p _ _ _ n = refl

if-both : (a b : Bool) → cond (a && b) 1 0 ≤ 1
if-both true true = omega arith
if-both true false = omega arith
if-both false b = omega arith

takes-ups : (p : ℕ) (k : Option StepError) (t : Step) (o : Op) (b : Bool) → cond (takes_up k p t (Some o) && b) 1 0 ≤ ups o
takes-ups p None (Go q h) (Op.Move Move.TakeUp f) b = if-both _ b
takes-ups p _ _ _ b = omega arith

takes-deeper : (a : Bool) (m n : ℕ) → n < m → ◌≡◌ {A = ℕ} (cond (a && eqb m n) 1 0) 0
takes-deeper a m n l = by a (eqb m n) (let z : eqb m n ≡ false = grind (arith, nat_tests) in z)
  where
    by : (a b : Bool) → b ≡ false → ◌≡◌ {A = ℕ} (cond (a && b) 1 0) 0
    by true false e = refl
    by false b e = refl
    by true true e = absurd (cc)

deeper : (old : List Op) (c : Op) (side above : List Op) → Stands (c ∷ side) → depth old < depth ((old ++ c ∷ side) ++ above)
deeper old c side above st = omega (
  arith,
  weigh-append user_of (old ++ c ∷ side) above,
  weigh-append user_of old (c ∷ side),
  ap (weigh user_of) st.is,
  weigh-append user_of st.below (st.last ∷ []),
  ap {B = ℕ} (λ (b : Bool). cond b 1 0) st.waiting,
)

-- weights of stacks

pub one-stack : (v : Op → ℕ) (ss : List (List Op)) (p : ℕ) → weigh v (get_or ss p []) ≤ weigh_all v ss
one-stack v [] p = omega arith
one-stack v (s ∷ ss) zero = omega arith
one-stack v (s ∷ ss) (suc p) = omega (arith, one-stack v ss p)

pub two-stacks : (v : Op → ℕ) (ss : List (List Op)) (i p : ℕ) → i ≢ p →
    weigh v (get_or ss i []) + weigh v (get_or ss p []) ≤ weigh_all v ss
two-stacks v [] i p n = omega arith
two-stacks v (s ∷ ss) zero zero n = absurd (n refl)
two-stacks v (s ∷ ss) zero (suc p) n = omega (arith, one-stack v ss p)
two-stacks v (s ∷ ss) (suc i) zero n = omega (arith, one-stack v ss i)
two-stacks v (s ∷ ss) (suc i) (suc p) n = omega (arith, two-stacks v ss i p (λ e. n (ap suc e)))

-- a step of a party that does nothing for run q leaves how many that has taken

settled-untaken : (q : ℕ) (o : Option Reply) (p : ℕ) (w v : World) (os : List Op) → Untaken q w v →
    Untaken q w (settled_by o p v os).world
settled-untaken q None p w v os e = e
settled-untaken q (Some a) p w v os e = e

went-untaken : (q : ℕ) (w : World) (os : List Op) (p : ℕ) (d : Op → Done) (o : Option Op) →
    ((x : Op) → o ≡ Some x → Untaken q w (d x).world) → Untaken q w (gone_on p w os o d).world
went-untaken q w os p d None k = refl
went-untaken q w os p d (Some x) k = settled-untaken q _ p w (d x).world _ (k x refl)

pub part-untaken : (q : ℕ) (w : World) (ss : List (List Op)) (os : List Op) (t : Step) → part_refusal w ss os t ≡ None →
    weigh (running_of q) os ≡ 0 → Untaken q w (part_after w os t).world
part-untaken q w ss os (Begin p c) e z =
    settled-untaken q _ p w (begun p (log w (Event.CallBegun p c)) (mine (top os)) c).world _ (untaken-begun q p w (mine (top os)) c)
part-untaken q w ss os (Go p h) e z = went-untaken q w os p (λ x. act p h x w) (top os)
    (λ x i. untaken q p h x w (omega (
      arith,
      z,
      ap (weigh (running_of q)) (topped os x i),
      weigh-append (running_of q) (below_top os) (x ∷ []),
    )))
part-untaken q w ss os (Answer p u) e z = went-untaken q w os p (λ x. react p x u w) (top os)
    (λ x i. (react-same p x u w (answers x u (sym (ap (λ (o : Option Op). answer_refusal o u) i) ∙ e))).taken q)

-- a step of the party of the poll

pub free-waits : (b : Bool) (r : Option StepError) → unless b Busy r ≡ None → b ≡ true
free-waits true r e = refl
free-waits false r e = absurd (cc)

-- what counts where a party has this to do
abbrev pub counted : Option StepError → ℕ → List Op → Step → List Op → ℕ
counted refused p old t os = cond (takes_up refused p t (top os) && eqb (depth os) (depth old)) 1 0

begin-none : (refused : Option StepError) (p i : ℕ) (c : Call) (o : Option Op) (b : Bool) →
    ◌≡◌ {A = ℕ} (cond (takes_up refused p (Begin i c) o && b) 1 0) 0
begin-none None p i c o b = refl
begin-none (Some e) p i c o b = refl

answer-none : (refused : Option StepError) (p i : ℕ) (u : UserEnd) (o : Option Op) (b : Bool) →
    ◌≡◌ {A = ℕ} (cond (takes_up refused p (Answer i u) o && b) 1 0) 0
answer-none None p i u o b = refl
answer-none (Some e) p i u o b = refl

-- what is left behind a step, and what the step takes up
pub record Goes (q : ℕ) (old : List Op) (n taken : ℕ) (x : Part) : Type 0 where
  pub left : ℕ
  pub stays : StaysIn q old left x
  pub pays : taken + left ≤ n

pub lands : (q : ℕ) (old : List Op) (m i : ℕ) (v : World) (xs : List Op) (c : Op) (side above : List Op) →
    xs ≡ (old ++ c ∷ side) ++ above → Owns q c → weigh beside_of side ≡ 0 → weigh ups side + budget q c v ≤ m →
    (above ≡ []) ⊎ Stands (c ∷ side) → StaysIn q old m (settled i v xs)
lands q old m i v xs c side above e k z l st =
    subst (λ (ys : List Op). StaysIn q old m (settled i v ys)) (sym e) (settled-stays q old m i v c side above k z l st)

module _ (p q : ℕ) (old : List Op) (n : ℕ) (w : World) (ss : List (List Op)) (os : List Op) (c : Op) (side above : List Op)
    (is : os ≡ (old ++ c ∷ side) ++ above) (k : Owns q c) (z : weigh beside_of side ≡ 0) (l : weigh ups side + budget q c w ≤ n)
    (st : (above ≡ []) ⊎ Stands (c ∷ side)) (used : weigh (running_of q) os ≤ 1) (few : is_end c ≡ false → Ready q w)
    (refused : Option StepError) where
  -- a call that began inside goes on
  inner : (i : ℕ) (d : Done) (xs : List Op) → Stands (c ∷ side) → (is_end c ≡ false → Untaken q w d.world) →
      StaysIn q old n (onto i d ((old ++ c ∷ side) ++ xs))
  inner i d xs s u = lands q old n i d.world (((old ++ c ∷ side) ++ xs) ++ reverse d.next) c side (xs ++ reverse d.next)
      (append_assoc (old ++ c ∷ side) xs (reverse d.next)) k z (omega (arith, l, budget-kept q c w d.world u)) (inr s)

  -- something beside is done
  beside : (i : ℕ) (d : Done) (v : Last side) → Beside w d → StaysIn q old (n - ups v.last) (onto i d (old ++ c ∷ v.below))
  beside i d v b = lands q old (n - ups v.last) i d.world ((old ++ c ∷ v.below) ++ reverse d.next) c (v.below ++ reverse d.next) []
      (append_assoc old (c ∷ v.below) (reverse d.next) ∙ sym (append-nil (old ++ c ∷ (v.below ++ reverse d.next)))) k
      (omega (
        arith,
        z,
        b.light,
        ap (weigh beside_of) v.is,
        weigh-append beside_of v.below (v.last ∷ []),
        weigh-append beside_of v.below (reverse d.next),
        weigh-reverse beside_of d.next,
      ))
      (omega (
        arith,
        l,
        b.ups,
        ap (weigh ups) v.is,
        weigh-append ups v.below (v.last ∷ []),
        weigh-append ups v.below (reverse d.next),
        weigh-reverse ups d.next,
        budget-kept q c w d.world (λ y. b.same.taken q),
      ))
      (inl refl)

  -- the run itself goes on
  control : (i : ℕ) (d : Done) → Comes q (budget q c w) d → StaysIn q old n (onto i d old)
  control i d (comes_on x xs e y u f) =
      lands q old n i d.world (old ++ reverse d.next) x xs []
      (ap (λ (ys : List Op). old ++ ys) e ∙ sym (append-nil (old ++ x ∷ xs))) y u (omega (arith, l, f)) (inl refl)
  control i d (comes_over e) = settled-shorter q old n i d.world (old ++ reverse d.next)
      (omega (arith, ap (λ (ys : List Op). length (old ++ reverse ys)) e, length-append old []))

  idle : (x : Last above) → is_end c ≡ false → running_of q x.last ≡ 0
  idle x y = omega (
    arith,
    used,
    ap (weigh (running_of q)) is,
    weigh-append (running_of q) (old ++ c ∷ side) above,
    weigh-append (running_of q) old (c ∷ side),
    ap (weigh (running_of q)) x.is,
    weigh-append (running_of q) x.below (x.last ∷ []),
    owns-uses q c k y,
  )

  none-deeper : (t : Step) → Stands (c ∷ side) → counted refused p old t os ≡ 0
  none-deeper t s = takes-deeper (takes_up refused p t (top os)) (depth os) (depth old)
      (omega (arith, deeper old c side above s, ap depth is))

  must-stand : (x : Last above) → Stands (c ∷ side)
  must-stand x = ⊎_elim (λ (y : above ≡ []). absurd (not-nil x.below x.last (sym x.is ∙ y))) (λ (y : Stands (c ∷ side)). y) st

  on-above : (x : Last above) → os ≡ ((old ++ c ∷ side) ++ x.below) ++ x.last ∷ []
  on-above x = is ∙ (ap (λ (xs : List Op). (old ++ c ∷ side) ++ xs) x.is ∙ sym (append_assoc (old ++ c ∷ side) x.below (x.last ∷ [])))

  on-side : above ≡ [] → (v : Last side) → os ≡ (old ++ c ∷ v.below) ++ v.last ∷ []
  on-side e v = is ∙ (ap (λ (xs : List Op). (old ++ c ∷ side) ++ xs) e
      ∙ (append-nil (old ++ c ∷ side)
      ∙ (ap (λ (xs : List Op). old ++ c ∷ xs) v.is ∙ sym (append_assoc old (c ∷ v.below) (v.last ∷ [])))))

  on-control : above ≡ [] → side ≡ [] → os ≡ old ++ c ∷ []
  on-control e v = is ∙ (ap (λ (xs : List Op). (old ++ c ∷ side) ++ xs) e
      ∙ (append-nil (old ++ c ∷ side) ∙ ap (λ (xs : List Op). old ++ c ∷ xs) v))

  -- what its last thing does, where it has one
  gone-is : (i : ℕ) (d : Op → Done) (o : Op) (below : List Op) → os ≡ below ++ o ∷ [] →
      onto i (d o) below ≡ gone_on i w os (top os) d
  gone-is i d o below e =
      let b : _ = below-is os below o e in
      sym (ap (λ (x : Option Op). gone_on i w os x d) b.0 ∙ ap (λ (xs : List Op). onto i (d o) xs) b.1)

  beside-light : (v : Last side) → beside_of v.last ≡ 0
  beside-light v = omega (arith, z, ap (weigh beside_of) v.is, weigh-append beside_of v.below (v.last ∷ []))

  ups-few : (v : Last side) → ups v.last ≤ n
  ups-few v = omega (arith, l, ap (weigh ups) v.is, weigh-append ups v.below (v.last ∷ []))

  counted-few : (t : Step) (o : Op) → top os ≡ Some o → counted refused p old t os ≤ ups o
  counted-few t o e = subst (λ (x : Option Op). cond (takes_up refused p t x && eqb (depth os) (depth old)) 1 0 ≤ ups o) (sym e)
      (takes-ups p refused t o (eqb (depth os) (depth old)))

  module _ (i : ℕ) (h : Hint) (e : go_refusal w (top os) ≡ None) where
    abbrev does : Op → Done
    does x = act i h x w

    ready : (o : Op) → top os ≡ Some o → waits o ≡ false
    ready o t = goes w o (sym (ap (λ (x : Option Op). go_refusal w x) t) ∙ e)

    by-go : Goes q old n (counted refused p old (Go i h) os) (gone_on i w os (top os) does)
    by-go = ⊎_elim by-own by-inner (from-end above)
      where
        by-inner : Last above → Goes q old n (counted refused p old (Go i h) os) (gone_on i w os (top os) does)
        by-inner x = record {
          left = n;
          stays = subst (StaysIn q old n) (gone-is i does x.last _ (on-above x))
              (inner i (does x.last) x.below (must-stand x) (λ y. untaken q i h x.last w (idle x y)));
          pays = omega (arith, none-deeper (Go i h) (must-stand x));
        }

        by-own : above ≡ [] → Goes q old n (counted refused p old (Go i h) os) (gone_on i w os (top os) does)
        by-own a = ⊎_elim by-control by-beside (from-end side)
          where
            by-beside : Last side → Goes q old n (counted refused p old (Go i h) os) (gone_on i w os (top os) does)
            by-beside v =
                let t : top os ≡ Some v.last = (below-is os _ v.last (on-side a v)).0 in
                record {
                  left = n - ups v.last;
                  stays = subst (StaysIn q old (n - ups v.last)) (gone-is i does v.last _ (on-side a v))
                      (beside i (does v.last) v (beside-act i h v.last w (ready v.last t) (beside-light v)));
                  pays = omega (arith, counted-few (Go i h) v.last t, ups-few v);
                }

            by-control : side ≡ [] → Goes q old n (counted refused p old (Go i h) os) (gone_on i w os (top os) does)
            by-control v =
                let t : top os ≡ Some c = (below-is os old c (on-control a v)).0 in
                record {
                  left = n;
                  stays = subst (StaysIn q old n) (gone-is i does c old (on-control a v))
                      (control i (does c) (owns-act q i h c w (ready c t) k few));
                  pays = omega (arith, counted-few (Go i h) c t, owns-no-up q c k);
                }

  module _ (i : ℕ) (u : UserEnd) (e : answer_refusal (top os) u ≡ None) where
    abbrev reacts : Op → Done
    reacts x = react i x u w

    accepted : (o : Op) → top os ≡ Some o → accepts o u ≡ true
    accepted o t = answers o u (sym (ap (λ (x : Option Op). answer_refusal x u) t) ∙ e)

    by-answer : Goes q old n (counted refused p old (Answer i u) os) (gone_on i w os (top os) reacts)
    by-answer = ⊎_elim by-own by-inner (from-end above)
      where
        none : counted refused p old (Answer i u) os ≡ 0
        none = answer-none refused p i u (top os) (eqb (depth os) (depth old))

        by-inner : Last above → Goes q old n (counted refused p old (Answer i u) os) (gone_on i w os (top os) reacts)
        by-inner x =
            let t : top os ≡ Some x.last = (below-is os _ x.last (on-above x)).0 in
            record {
              left = n;
              stays = subst (StaysIn q old n) (gone-is i reacts x.last _ (on-above x))
                  (inner i (reacts x.last) x.below (must-stand x)
                  (λ y. (react-same i x.last u w (accepted x.last t)).taken q));
              pays = omega (arith, none);
            }

        by-own : above ≡ [] → Goes q old n (counted refused p old (Answer i u) os) (gone_on i w os (top os) reacts)
        by-own a = ⊎_elim by-control by-beside (from-end side)
          where
            by-beside : Last side → Goes q old n (counted refused p old (Answer i u) os) (gone_on i w os (top os) reacts)
            by-beside v =
                let t : top os ≡ Some v.last = (below-is os _ v.last (on-side a v)).0 in
                record {
                  left = n - ups v.last;
                  stays = subst (StaysIn q old (n - ups v.last)) (gone-is i reacts v.last _ (on-side a v))
                      (beside i (reacts v.last) v (beside-react i v.last u w (accepted v.last t) (beside-light v)));
                  pays = omega (arith, none);
                }

            by-control : side ≡ [] → Goes q old n (counted refused p old (Answer i u) os) (gone_on i w os (top os) reacts)
            by-control v =
                let t : top os ≡ Some c = (below-is os old c (on-control a v)).0 in
                record {
                  left = n;
                  stays = subst (StaysIn q old n) (gone-is i reacts c old (on-control a v))
                      (control i (reacts c) (owns-react q i c u w (accepted c t) k));
                  pays = omega (arith, none);
                }

  module _ (i : ℕ) (asked : Call) (e : begin_refusal w ss (top os) asked ≡ None) where
    abbrev begins : Done
    begins = begun i (log w (Event.CallBegun i asked)) (mine (top os)) asked

    -- its party stands in user code
    in-user : (o : Op) → top os ≡ Some o → waits o ≡ true
    in-user o t = free-waits (waits o) _ (sym (ap (λ (x : Option Op). begin_refusal w ss x asked) t) ∙ e)

    stands-in : Stands (c ∷ side)
    stands-in = ⊎_elim by-own (λ (s : Stands (c ∷ side)). s) st
      where
        by-own : above ≡ [] → Stands (c ∷ side)
        by-own a = ⊎_elim
            (λ (v : side ≡ []). record {
              below = [];
              last = c;
              is = ap (λ (xs : List Op). c ∷ xs) v;
              waiting = in-user c (below-is os old c (on-control a v)).0;
            })
            (λ (v : Last side). record {
              below = c ∷ v.below;
              last = v.last;
              is = ap (λ (xs : List Op). c ∷ xs) v.is;
              waiting = in-user v.last (below-is os _ v.last (on-side a v)).0;
            })
            (from-end side)

    by-begin : Goes q old n (counted refused p old (Begin i asked) os) (onto i begins os)
    by-begin = record {
      left = n;
      stays = subst (λ (xs : List Op). StaysIn q old n (onto i begins xs)) (sym is)
          (inner i begins above stands-in (λ y. untaken-begun q i w (mine (top os)) asked));
      pays = omega (arith, begin-none refused p i asked (top os) (eqb (depth os) (depth old)));
    }

  pub by-mine : (t : Step) → part_refusal w ss os t ≡ None → Goes q old n (counted refused p old t os) (part_after w os t)
  by-mine (Begin i asked) e = by-begin i asked e
  by-mine (Go i h) e = by-go i h e
  by-mine (Answer i u) e = by-answer i u e
