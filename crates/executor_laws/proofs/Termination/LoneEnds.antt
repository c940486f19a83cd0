-- For calls_end and lone_calls_end.
-- A call that isn't refused can be made alone: who has begun one can go on to its end.
use Rattle.std.proofs.Common.{◌≡◌, ◌≢◌, ◌⊎◌, ◌∙◌, ℕ, zero, suc, ◌<◌, ◌≤◌, List, [], ◌∷◌, length, Bool, true, false, ◌&&◌, ◌||◌}
use Rattle.std.proofs.Common.{not, ◌==◌, eqb, ltb, refl, sym, ap, subst, inl, inr, arith, get_or-set_other, Ok}
use Rattle.std.specs.Prelude.{Option, Some, None}
use Rattle.std.{proofs.lemmas.Bool.Decides.nat_tests, proofs.Math.ListN.length-set}
use Rattle.executor_model.specs.{Trace.Trace, Quiet.IsQuiet, Executions.run_all, Weights.weigh, World.Lock}
use Rattle.executor_model.proofs.{Steps.Lift.no_hint, Quiet.Resting.Deep, Quiet.Resting.rests}
use Rattle.executor_laws.proofs.{Termination.Ends.lowers, Termination.Ends.ends, Termination.Holding.has-top}
use Rattle.executor_laws.proofs.Types.{Call, Kind, ListOp, Op, Step, Begin, Go, StepError, NoSuch}
use Rattle.executor_model.specs.declared.step.Step.TheVariants.{Answer}
use Rattle.executor_model.specs.Steps.{Machine, stack, top, waits, is_locked_out, unless, refusal, part_after, after, party_of, run, start}
use Rattle.executor_laws.specs.{LoneEnds.is_onward_of, LoneEnds.are_onward_of, LoneEnds.IsLoneCall, LoneEnds.LoneCallsEnd, GoingOn.CanGoOn}
use Rattle.executor_laws.specs.{GoingOn.IsTaken, GoingOn.held_of, Remaining.remaining, Remaining.is_onward, Remaining.are_onward}
use Rattle.executor_model.proofs.Quiet.Calls.{calling_of, begun_by, ended_by}
use Rattle.executor_model.proofs.Steps.Reached.{Reached, run-first, run-then, reached-more, reached-step, deep-here}
use Rattle.executor_laws.proofs.Termination.GoingOn.{goes-on, held-here, holder-goes-on, holding-free}

left-true : (a b : Bool) → (a && b) ≡ true → (a ≡ true) × (b ≡ true)
left-true true b e = (refl, e)
left-true false b e = absurd (cc)

in-range : (b : Bool) (r : Option StepError) → unless b NoSuch r ≡ None → b ≡ true
in-range true r e = refl
in-range false r e = absurd (cc)

same-party : (p q : ℕ) → eqb p q ≡ true → q ≡ p
same-party p q e = grind (arith, nat_tests)

party-is : (p : ℕ) (t : Step) → is_onward_of p t ≡ true → party_of t ≡ p
party-is p (Begin q c) o = absurd (cc)
party-is p (Go q h) o = same-party p q o
party-is p (Answer q u) o = same-party p q o

-- where nobody has anything to do, no call is in progress

quiet-by : (es : Trace) → ((q : ℕ) → begun_by q es ≡ ended_by q es) → IsQuiet es
unfolding begun_by ended_by
quiet-by es k = k

quiet : (s : Machine) → Deep s → ((q : ℕ) → stack s q ≡ []) → IsQuiet s.world.trace
quiet s d k = quiet-by s.world.trace (λ q. omega (arith, d.depth q, ap (weigh calling_of) (k q)))

nothing : (os : List Op) → top os ≡ None → os ≡ []
nothing [] e = refl
nothing (x ∷ xs) e = absurd (has-top x xs e)

own : (p : ℕ) → eqb p p ≡ true
own p = grind (arith, nat_tests)

-- the steps by which p goes on to the end
pub record Finish (p : ℕ) (s : Machine) : Type 0 where
  pub steps : List Step
  pub new : Machine
  pub onward : are_onward_of p steps ≡ true
  pub made : run_all steps s ≡ Ok new
  pub quiet : IsQuiet new.world.trace

abbrev pub OthersRest : ℕ → Machine → Type 0
OthersRest p s = (q : ℕ) → q ≢ p → stack s q ≡ []

all-rest : (p : ℕ) (s : Machine) → OthersRest p s → stack s p ≡ [] → (q : ℕ) → stack s q ≡ []
all-rest p s k e q = by (eqb q p) refl
  where
    by : (b : Bool) → eqb q p ≡ b → stack s q ≡ []
    by true x = let same : q ≡ p = grind (arith, nat_tests) in ap (λ (i : ℕ). stack s i) same ∙ e
    by false x = k q (λ y. let z : eqb q p ≡ true = grind (arith, nat_tests) in let no : true ≡ false = sym z ∙ x in
        absurd (cc))

-- a party that is alone waits for no lock

wants : (l : Lock) (o : Op) → is_locked_out l o ≡ true → IsTaken l
wants l (Op.List (ListOp.LockWrite s)) e = by l.writing e
  where
    some : (n : ℕ) → not (n == 0) ≡ true → 1 ≤ n
    some zero k = absurd (cc)
    some (suc n) k = omega arith

    by : (b : Bool) → (b || not (l.readers == 0)) ≡ true → (b ≡ true) ⊎ (1 ≤ l.readers)
    by true k = inl refl
    by false k = inr (some l.readers k)
wants l (Op.List (ListOp.LockRead x)) e = inl e
wants l _ e = absurd (cc)

pub alone-free : (p : ℕ) (s : Machine) (o : Op) → Reached s → OthersRest p s → top (stack s p) ≡ Some o →
    is_locked_out s.world.lock o ≡ false
alone-free p s o r k e = by (is_locked_out s.world.lock o) refl
  where
    -- whoever has the lock is the one that isn't at rest
    mine : (q : ℕ) (b : Bool) → eqb q p ≡ b → 1 ≤ weigh held_of (stack s q) → 1 ≤ weigh held_of (stack s p)
    mine q true i l = let j : q ≡ p = grind (arith, nat_tests) in
        omega (arith, l, ap (λ (n : ℕ). weigh held_of (stack s n)) j)
    mine q false i l =
        let rest : stack s q ≡ [] = k q (λ y. (let z : eqb q p ≡ true = grind (arith, nat_tests) in
        let no : true ≡ false = sym z ∙ i in absurd (cc))) in
        absurd (omega (arith, l, ap (weigh held_of) rest))

    by : (b : Bool) → is_locked_out s.world.lock o ≡ b → is_locked_out s.world.lock o ≡ false
    by false i = i
    by true i =
        let q : _ = (holder-goes-on s r).someone (wants s.world.lock o i) in
        let x : _ = held-here s p r (mine q.0 (eqb q.0 p) refl q.1) in
        let both : ◌≡◌ {A = Option Op} (Some x.0) (Some o) = sym x.1 ∙ e in
        let same : x.0 ≡ o = cc in
        subst (λ (y : Op). is_locked_out s.world.lock y ≡ false) same (holding-free s.world.lock x.0 x.2)

-- one step of p, and then on to the end
goes-first : (p : ℕ) (s : Machine) (t : Step) → is_onward_of p t ≡ true → refusal s t ≡ None → Finish p (after s t) →
    Finish p s
goes-first p s t o e f = record {
  steps = t ∷ f.steps;
  new = f.new;
  onward = ap (λ (b : Bool). b && are_onward_of p f.steps) o ∙ f.onward;
  made = run-then t f.steps s f.new e f.made;
  quiet = f.quiet;
}

pub still-rest : (p : ℕ) (s : Machine) (t : Step) → party_of t ≡ p → OthersRest p s → OthersRest p (after s t)
still-rest p s t e k q n = get_or-set_other s.parties (party_of t) q _ [] (λ x. n (x ∙ e)) ∙ k q n

pub still-party : (p : ℕ) (s : Machine) (t : Step) → p < length s.parties → p < length (after s t).parties
still-party p s t l = omega
    (arith, l, length-set s.parties (party_of t) (part_after s.world (stack s (party_of t)) t).todo)

pub finishes : (n p : ℕ) (s : Machine) → Reached s → p < length s.parties → OthersRest p s → remaining s ≤ n →
    (o : Option Op) →
    top (stack s p) ≡ o → Finish p s
finishes n p s r l k m None e =
    record {
      steps = [];
      new = s;
      onward = refl;
      made = refl;
      quiet = quiet s (deep-here s r) (all-rest p s k (nothing (stack s p) e));
    }
finishes zero p s r l k m (Some o) e = absurd (none (waits o) refl)
  where
    c : CanGoOn s p o
    c = goes-on s p o l e

    free : is_locked_out s.world.lock o ≡ false
    free = alone-free p s o r k e

    none : (b : Bool) → waits o ≡ b → ⊥
    none true w = omega (arith, m, lowers s r (Answer p c.end) refl (c.answers w))
    none false w = omega (arith, m, lowers s r (Go p no_hint) refl (c.goes w free no_hint))
finishes (suc n) p s r l k m (Some o) e =
    by (λ t j q i. finishes n p (after s t) (reached-step s t i r) (still-party p s t l) (still-rest p s t q k) (omega (
      arith,
      m,
      lowers s r t j i,
    )) _ refl) (waits o) refl
  where
    c : CanGoOn s p o
    c = goes-on s p o l e

    free : is_locked_out s.world.lock o ≡ false
    free = alone-free p s o r k e

    by : ((t : Step) → is_onward t ≡ true → party_of t ≡ p → refusal s t ≡ None → Finish p (after s t)) → (b : Bool) →
        waits o ≡ b →
        Finish p s
    by more true w = goes-first p s (Answer p c.end) (own p) (c.answers w)
        (more (Answer p c.end) refl refl (c.answers w))
    by more false w = goes-first p s (Go p no_hint) (own p) (c.goes w free no_hint)
        (more (Go p no_hint) refl refl (c.goes w free no_hint))

-- each call that isn't refused
pub can-be-made : (s : Machine) → Reached s → IsQuiet s.world.trace → (p : ℕ) (c : Call) →
    refusal s (Begin p c) ≡ None →
    (steps : List Step) × (new : Machine) × IsLoneCall p c steps s new
can-be-made s r calm p c e =
    let now : Machine = after s (Begin p c) in
    let l : p < length s.parties = let b : ltb p (length s.parties) ≡ true = in-range _ _ e in
    grind (arith, nat_tests) in
    let others : OthersRest p now = still-rest p s (Begin p c) refl (λ q n. rests s (deep-here s r) calm q) in
    let f : Finish p now =
    finishes (remaining now) p now (reached-step s (Begin p c) e r) (still-party p s (Begin p c) l) others (omega arith)
    _ refl in
    (f.steps, f.new, record { made = run-then (Begin p c) f.steps s f.new e f.made; alone = f.onward; ended = f.quiet })

-- however it goes on

onward-of : (p : ℕ) (ts : List Step) → are_onward_of p ts ≡ true → are_onward ts ≡ true
onward-of p [] e = refl
onward-of p (Begin q c ∷ ts) e = absurd (cc)
onward-of p (Go q h ∷ ts) e = onward-of p ts (left-true _ _ e).1
onward-of p (Answer q u ∷ ts) e = onward-of p ts (left-true _ _ e).1

-- the party is there, and nobody else has anything to do
abbrev IsAlone : ℕ → Machine → Type 0
IsAlone p s = (p < length s.parties) × OthersRest p s

still-alone : (p : ℕ) (ts : List Step) (s now : Machine) → are_onward_of p ts ≡ true → run_all ts s ≡ Ok now →
    IsAlone p s → IsAlone p now
still-alone p [] s now o e k = subst (IsAlone p) (let same : s ≡ now = cc in same) k
still-alone p (t ∷ ts) s now o e k =
    let first : _ = run-first t ts s now e in
    let party : party_of t ≡ p = party-is p t (left-true _ _ o).0 in
    still-alone p ts (after s t) now (left-true _ _ o).1 first.1 (still-party p s t k.0, still-rest p s t party k.1)

-- it has ended, or can go on
ended-or-on : (p : ℕ) (s : Machine) → Reached s → IsAlone p s → (o : Option Op) → top (stack s p) ≡ o →
    IsQuiet s.world.trace ⊎ ((t : Step) × (is_onward_of p t ≡ true) × (refusal s t ≡ None))
ended-or-on p s r k None e = inl (quiet s (deep-here s r) (all-rest p s k.1 (nothing (stack s p) e)))
ended-or-on p s r k (Some o) e = inr (by (waits o) refl)
  where
    c : CanGoOn s p o
    c = goes-on s p o k.0 e

    free : is_locked_out s.world.lock o ≡ false
    free = alone-free p s o r k.1 e

    by : (b : Bool) → waits o ≡ b → (t : Step) × (is_onward_of p t ≡ true) × (refusal s t ≡ None)
    by true w = (Answer p c.end, own p, c.answers w)
    by false w = (Go p no_hint, own p, c.goes w free no_hint)

lone-calls-end : (s : Machine) → Reached s → LoneCallsEnd s
lone-calls-end s r = record {
  can = λ calm p c e. can-be-made s r calm p c e;
  within = λ calm p c steps now k.
      let first : _ = run-first (Begin p c) steps s now k.made in
      ends steps (after s (Begin p c)) (reached-step s (Begin p c) first.0 r) now (onward-of p steps k.alone) first.1;
  onward = λ calm p c steps now k.
      let first : _ = run-first (Begin p c) steps s now k.made in
      let l : p < length s.parties = let b : ltb p (length s.parties) ≡ true = in-range _ _ first.0 in
      grind (arith, nat_tests) in
      let alone : IsAlone p (after s (Begin p c)) = (
        still-party p s (Begin p c) l,
        still-rest p s (Begin p c) refl (λ q n. rests s (deep-here s r) calm q),
      ) in
      ended-or-on p now (reached-more (Begin p c ∷ steps) s now r k.made)
      (still-alone p steps (after s (Begin p c)) now k.alone first.1 alone) _ refl;
}

pub lone-calls-all-end : (limit : ℕ) (kind : Kind) (parties : ℕ) (steps : List Step) → LoneCallsEnd (run steps (start limit kind parties))
lone-calls-all-end limit kind parties steps =
    lone-calls-end (run steps (start limit kind parties))
    (record { limit = limit; kind = kind; parties = parties; steps = steps; is = refl })
