-- What holds of every state to which steps lead holds of a machine.
use Rattle.std.proofs.Common.{◌≡◌, ℕ, List, [], ◌∷◌, ◌++◌, refl, sym, ap, ◌∙◌, subst, Result}
use Rattle.std.specs.Prelude.{None}
use Rattle.executor_model.specs.declared.kind.Kind.{Kind}
use Rattle.executor_model.specs.declared.step.Step.{Step}
use Rattle.executor_model.specs.declared.step.StepError.{StepError}
use Rattle.executor_model.specs.Good.{Good}
use Rattle.executor_model.specs.Executions.{EveryMachine}
use Rattle.executor_model.specs.Steps.{Machine, refusal, after, step, stepped, run, start}
use Rattle.executor_model.proofs.Steps.Lift.{good}
use Rattle.executor_model.proofs.Steps.Stepping.{step-made}
use Rattle.executor_core.specs.Reached.{IsReached}

pub is_good : (s : Machine) → IsReached s → Good s
is_good s r = subst Good (sym r.here) (good r.limit r.kind r.parties r.steps)

run-push : (ts : List Step) (t : Step) (s : Machine) → run (ts ++ t ∷ []) s ≡ stepped (run ts s) (step (run ts s) t)
run-push [] t s = refl
run-push (x ∷ ts) t s = run-push ts t (stepped s (step s x))

-- one step more
pub goes_on : (s new : Machine) (t : Step) → refusal s t ≡ None → after s t ≡ new → IsReached s → IsReached new
goes_on s new t n e r = record {
  limit = r.limit;
  kind = r.kind;
  parties = r.parties;
  steps = r.steps ++ t ∷ [];
  here =
      sym e
      ∙ ap (λ (x : Result Machine StepError). stepped s x) (sym (step-made s t n))
      ∙ ap (λ (x : Machine). stepped x (step x t)) r.here
      ∙ sym (run-push r.steps t (start r.limit r.kind r.parties));
}

-- a new machine
pub begins : (s : Machine) (limit : ℕ) (kind : Kind) (n : ℕ) → s ≡ start limit kind n → IsReached s
begins s limit kind n e = record { limit = limit; kind = kind; parties = n; steps = []; here = e }

-- a law of every machine is one of this
pub machine_law_here : (P : Machine → Type 0) → EveryMachine P → (s : Machine) → IsReached s → P s
machine_law_here P law s r = subst P (sym r.here) (law r.limit r.kind r.parties r.steps)
