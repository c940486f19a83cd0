-- For laws of the crates above.
-- What holds of each machine to which steps lead.
use Rattle.std.proofs.Common.{◌≡◌, ℕ, List, [], ◌∷◌, ◌++◌, refl, sym, ap, ◌∙◌, subst, Ok, Err, Result}
use Rattle.std.specs.Prelude.{Option, Some, None}
use Rattle.executor_model.specs.Steps.{Machine, refusal, after, step, stepped, run, start}
use Rattle.executor_model.specs.{Executions.run_all, Good.Good}
use Rattle.executor_model.proofs.{Types.Kind, Types.Step, Types.StepError, Steps.Lift.good, Steps.Stepping.step-refused}
use Rattle.executor_model.proofs.{Steps.Stepping.step-made, Quiet.Resting.Deep, Quiet.Resting.deep}

-- a list of steps that is possible is so step by step
abbrev then : List Step → Result Machine StepError → Result Machine StepError
then ts r = elim r [ Ok new ↦ run_all ts new | Err error ↦ Err error ]

pub run-first : (t : Step) (ts : List Step) (s new : Machine) → run_all (t ∷ ts) s ≡ Ok new →
    (refusal s t ≡ None) × (run_all ts (after s t) ≡ Ok new)
run-first t ts s new e = go (refusal s t) refl
  where
    go : (r : Option StepError) → refusal s t ≡ r → (refusal s t ≡ None) × (run_all ts (after s t) ≡ Ok new)
    go None q = (q, sym (ap (then ts) (step-made s t q)) ∙ e)
    go (Some error) q = let no : ◌≡◌ {A = Result Machine StepError} (Err error) (Ok new) =
        sym (ap (then ts) (step-refused s t error q))
        ∙ e in absurd (cc)

-- one possible step, and then others
pub run-then : (t : Step) (ts : List Step) (s new : Machine) → refusal s t ≡ None → run_all ts (after s t) ≡ Ok new →
    run_all (t ∷ ts) s ≡ Ok new
run-then t ts s new e k = ap (then ts) (step-made s t e) ∙ k

-- some steps of a new machine led here
pub record Reached (s : Machine) : Type 0 where
  pub limit : ℕ
  pub kind : Kind
  pub parties : ℕ
  pub steps : List Step
  pub is : s ≡ run steps (start limit kind parties)

run-append : (xs ys : List Step) (s : Machine) → run (xs ++ ys) s ≡ run ys (run xs s)
run-append [] ys s = refl
run-append (x ∷ xs) ys s = run-append xs ys (stepped s (step s x))

pub run-of : (ts : List Step) (s new : Machine) → run_all ts s ≡ Ok new → run ts s ≡ new
run-of [] s new e = cc
run-of (t ∷ ts) s new e =
    let k : _ = run-first t ts s new e in
    ap (λ (r : Result Machine StepError). run ts (stepped s r)) (step-made s t k.0) ∙ run-of ts (after s t) new k.1

pub reached-more : (ts : List Step) (s new : Machine) → Reached s → run_all ts s ≡ Ok new → Reached new
reached-more ts s new r e = record {
  limit = r.limit;
  kind = r.kind;
  parties = r.parties;
  steps = r.steps ++ ts;
  is = sym (run-of ts s new e)
      ∙ (ap (λ (m : Machine). run ts m) r.is ∙ sym (run-append r.steps ts (start r.limit r.kind r.parties)));
}

pub reached-step : (s : Machine) (t : Step) → refusal s t ≡ None → Reached s → Reached (after s t)
reached-step s t e r = reached-more (t ∷ []) s (after s t) r (run-then t [] s (after s t) e refl)

pub good-here : (s : Machine) → Reached s → Good s
good-here s r = subst Good (sym r.is) (good r.limit r.kind r.parties r.steps)

pub deep-here : (s : Machine) → Reached s → Deep s
deep-here s r = subst Deep (sym r.is) (deep r.limit r.kind r.parties r.steps)
