-- What the headline says of the end of calls, of early drops and of outputs is what the laws say.
use Rattle.std.proofs.Common.{◌≡◌, ◌⊎◌, inl, inr, ◌<◌, ℕ, List, [], ◌∷◌, true, refl, sym, ap, ◌∙◌, subst, Ok, Err, Result}
use Rattle.executor_model.specs.declared.kind.Kind.{Kind}
use Rattle.executor_model.specs.declared.kind.Kind.TheVariants.{Static}
use Rattle.executor_model.specs.declared.step.Step.{Step}
use Rattle.executor_model.specs.declared.step.Step.TheVariants.{Begin, Go, Answer}
use Rattle.executor_model.specs.declared.step.StepError.{StepError}
use Rattle.executor_model.specs.EarlyDrop
use Rattle.executor_model.specs.EveryTrace.{EveryTraceBy}
use Rattle.executor_model.specs.Executions.{EveryMachine, run_all}
use Rattle.executor_model.specs.OutputKept
use Rattle.executor_model.specs.Steps.{Machine, after, step}
use Rattle.executor_model.proofs.Steps.Reached.{run-first}
use Rattle.executor_laws.specs.Remaining.{EachStepLowers, is_onward, remaining}
use Rattle.executor_core.specs.Headline as headline
use Rattle.executor_core.specs.Headline.{before_drop, has, is_cancelled, is_detached, is_drop_begun, is_last_waker, is_leak_begun}

-- calls end

onward : (p : ℕ) (t : Step) → headline.goes_on p t ≡ true → is_onward t ≡ true
onward p (Begin q c) h = h
onward p (Go q h) k = refl
onward p (Answer q e) k = refl

abbrev then : Result Machine StepError → Result Machine StepError
then r = elim r [ Ok new ↦ run_all [] new | Err error ↦ Err error ]

lowers : (s new : Machine) (p : ℕ) (t : Step) → EachStepLowers s → headline.goes_on p t ≡ true → step s t ≡ Ok new →
    remaining new < remaining s
lowers s new p t law h e =
    let k = run-first t [] s new (ap then e) in
    let same : after s t ≡ new = let q = k.1 in cc in
    subst (λ (m : Machine). remaining m < remaining s) same (law t (onward p t h) k.0)

pub calls-end : EveryMachine EachStepLowers → headline.CallsEnd
calls-end law = record {
  left = remaining;
  lowered = λ kind s new p t r. lowers s new p t (subst EachStepLowers (sym r.here) (law r.limit kind r.parties r.steps));
}

-- early drops

pub caused : EveryTraceBy EarlyDrop.EarlyDropHasCause → (kind : Kind) (s : Machine) → headline.IsReachedAs kind s → (f : ℕ) →
    headline.EarlyDropHasCause kind f s.world.trace
caused law kind s r f d n =
    let here : EarlyDrop.EarlyDropHasCause kind f s.world.trace =
    subst (λ (m : Machine). EarlyDrop.EarlyDropHasCause kind f m.world.trace) (sym r.here) (law r.limit kind r.parties r.steps f) in
    go (here (record { dropped = d; early = n }))
  where
    go : (has (is_cancelled f) (before_drop f s.world.trace) ≡ true)
        ⊎ ((has is_drop_begun (before_drop f s.world.trace) ≡ true)
        ⊎ EarlyDrop.IsForgotten kind f (before_drop f s.world.trace)) →
        (has (is_cancelled f) (before_drop f s.world.trace) ≡ true)
        ⊎ ((has is_drop_begun (before_drop f s.world.trace) ≡ true)
        ⊎ (((kind ≡ Static) ⊎ (has is_leak_begun (before_drop f s.world.trace) ≡ true))
        × (has (is_detached f) (before_drop f s.world.trace) ≡ true)
        × (has (is_last_waker f) (before_drop f s.world.trace) ≡ true)))
    go (inl c) = inl c
    go (inr (inl b)) = inr (inl b)
    go (inr (inr o)) = inr (inr (o.static, o.detached, o.unwakeable))

-- outputs

pub output-kept : (s : Machine) (f : ℕ) → OutputKept.OutputIsKept s f → headline.OutputIsKept s f
output-kept s f law q ready uncancelled ungiven held = law q (record {
  ready = ready;
  uncancelled = uncancelled;
  ungiven = ungiven;
  held = held;
})
