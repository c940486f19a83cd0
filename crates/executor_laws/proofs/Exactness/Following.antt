-- For ticks_are_exact, calls_at_rest_are_exact and lone_calls_are_exact.
-- What happens next behind the beginning of a call, where nobody else does anything.
use Rattle.std.proofs.Common.{◌≡◌, ◌≢◌, ℕ, List, [], ◌∷◌, ◌++◌, length, Bool, true, false, eqb, ltb, refl, sym, ap, ◌∙◌, subst}
use Rattle.std.proofs.lemmas.List.{append_assoc, append_cancel_left}
use Rattle.std.{proofs.Common.⊎_elim, specs.Prelude.Some, specs.Prelude.None}
use Rattle.executor_laws.proofs.Types.{Call, Event, Op, Hint, Step, Begin, Go, StepError, NoSuch, WrongAnswer, UserEnd}
use Rattle.executor_model.specs.declared.{step.Step.TheVariants.Answer, step.StepError.TheVariants.Idle}
use Rattle.executor_model.specs.Steps.{Machine, stack, top, accepts, unless, go_refusal, answer_refusal, party_of, part_refusal}
use Rattle.executor_model.specs.{Steps.step, Steps.stepped, Steps.run, Trace.Trace, Weights.same}
use Rattle.executor_model.proofs.Steps.TraceSteps.{IsContinued, Adds, adds, run-continues}
use Rattle.executor_model.proofs.Steps.TraceSteps.Adds.{refused, goes_on, begins}
use Rattle.executor_model.proofs.{Steps.Lists.same_cases, Steps.Stepping.step-refused}
use Rattle.executor_laws.proofs.Exactness.Finding.{heads, no-more}

-- this event begins no call
abbrev pub IsAlone : Event → Type 0
IsAlone e = (q : ℕ) (d : Call) → e ≢ Event.CallBegun q d

-- a step that is refused changes nothing

pub still : (s : Machine) (t : Step) (e : StepError) →
    part_refusal s.world s.parties (stack s (party_of t)) t ≡ Some e →
    stepped s (step s t) ≡ s
still s t e k = by-place (ltb (party_of t) (length s.parties)) refl
  where
    by-place : (b : Bool) → ltb (party_of t) (length s.parties) ≡ b → stepped s (step s t) ≡ s
    by-place true q = ap (stepped s) (step-refused s t e
        (ap (λ (x : Bool). unless x NoSuch (part_refusal s.world s.parties (stack s (party_of t)) t)) q ∙ k))
    by-place false q = ap (stepped s) (step-refused s t NoSuch
        (ap (λ (x : Bool). unless x NoSuch (part_refusal s.world s.parties (stack s (party_of t)) t)) q))

pub still-go : (s : Machine) (q : ℕ) (h : Hint) → stack s q ≡ [] → stepped s (step s (Go q h)) ≡ s
still-go s q h e = still s (Go q h) Idle (ap (λ (os : List Op). go_refusal s.world (top os)) e)

pub still-answer : (s : Machine) (q : ℕ) (u : UserEnd) → stack s q ≡ [] → stepped s (step s (Answer q u)) ≡ s
still-answer s q u e = still s (Answer q u) Idle (ap (λ (os : List Op). answer_refusal (top os) u) e)

pub wrong-answer : (s : Machine) (q : ℕ) (u : UserEnd) (o : Op) → stack s q ≡ o ∷ [] → accepts o u ≡ false →
    stepped s (step s (Answer q u)) ≡ s
wrong-answer s q u o e a = still s (Answer q u) WrongAnswer (ap (λ (os : List Op). answer_refusal (top os) u) e
    ∙ ap (λ (b : Bool). unless b WrongAnswer None) a)

-- what comes first behind es
pub first-of : (es more all later : Trace) (e x : Event) → IsContinued (es ++ x ∷ more) all → all ≡ es ++ e ∷ later →
    e ≡ x
first-of es more all later e x k q =
    heads e x later (more ++ k.0)
    (append_cancel_left es (e ∷ later) (x ∷ more ++ k.0) (sym q ∙ (k.1 ∙ append_assoc es (x ∷ more) k.0)))

-- the step that begins a call shows it
pub not-begun : (s : Machine) (q : ℕ) (d : Call) (ts : List Step) (e : Event) (later : Trace) → IsAlone e →
    (run ts (stepped s (step s (Begin q d)))).world.trace ≡ s.world.trace ++ e ∷ later →
    stepped s (step s (Begin q d)) ≡ s
not-begun s q d ts e later alone k = by-kind (adds s (Begin q d))
  where
    now : Machine
    now = stepped s (step s (Begin q d))

    by-kind : Adds s (Begin q d) now → now ≡ s
    by-kind (refused z) = z
    by-kind (goes_on z m) = absurd (cc)
    by-kind (begins p c z m) =
        let there : IsContinued (s.world.trace ++ Event.CallBegun p c ∷ m.more) (run ts now).world.trace =
        subst (λ (xs : Trace). IsContinued xs (run ts now).world.trace) (m.is
        ∙ append_assoc s.world.trace (Event.CallBegun p c ∷ []) m.more) (run-continues ts now) in
        absurd (alone p c (first-of s.world.trace m.more (run ts now).world.trace later e (Event.CallBegun p c) there
        k))

-- party p is about to do o, and nobody else has anything to do
module _ (s : Machine) (p : ℕ) (o : Op) (here : stack s p ≡ o ∷ []) (others : (q : ℕ) → q ≢ p →
    stack s q ≡ []) (unanswered : (u : UserEnd) →
    accepts o u ≡ false) (e : Event) (later : Trace) (alone : IsAlone e) (R : Type 0)
    (goes : (h : Hint) (ts : List Step) →
    (run ts (stepped s (step s (Go p h)))).world.trace ≡ s.world.trace ++ e ∷ later → R) where
  pub follow : (ts : List Step) → (run ts s).world.trace ≡ s.world.trace ++ e ∷ later → R
  follow [] k = absurd (no-more s.world.trace later e k)
  follow (Begin q d ∷ ts) k =
      follow ts (sym (ap (λ (m : Machine). (run ts m).world.trace) (not-begun s q d ts e later alone k)) ∙ k)
  follow (Answer q u ∷ ts) k = ⊎_elim
      (λ (x : (same q p ≡ 1) × (eqb q p ≡ true) × (q ≡ p)). follow ts
      (sym (ap (λ (m : Machine). (run ts m).world.trace)
      (wrong-answer s q u o (ap (stack s) x.2 ∙ here) (unanswered u))) ∙ k))
      (λ (x : (same q p ≡ 0) × (eqb q p ≡ false) × (q ≢ p)). follow ts
      (sym (ap (λ (m : Machine). (run ts m).world.trace) (still-answer s q u (others q x.2))) ∙ k))
      (same_cases q p)
  follow (Go q h ∷ ts) k = ⊎_elim
      (λ (x : (same q p ≡ 1) × (eqb q p ≡ true) × (q ≡ p)). goes h ts
      (sym (ap (λ (n : ℕ). (run ts (stepped s (step s (Go n h)))).world.trace) x.2) ∙ k))
      (λ (x : (same q p ≡ 0) × (eqb q p ≡ false) × (q ≢ p)). follow ts
      (sym (ap (λ (m : Machine). (run ts m).world.trace) (still-go s q h (others q x.2))) ∙ k))
      (same_cases q p)
