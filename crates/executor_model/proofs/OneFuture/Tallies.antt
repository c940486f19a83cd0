-- For all laws of one future.
-- How often a future was ready, its output went, and its handle or its output was given up: numbers that are counted
-- in a trace, for the laws of outputs (proofs/Outputs/Keeping, proofs/Outputs/Outputs).
use Rattle.std.proofs.Common.{◌≡◌, ℕ, ◌+◌, [], ◌∷◌, ◌++◌, cond, refl, arith}
use Rattle.std.{proofs.lemmas.List.Sums.sum_by_push, specs.Prelude.count_by}
use Rattle.executor_model.proofs.Types.{Event}
use Rattle.executor_model.specs.declared.call.Call.TheVariants.{Detach, DropHandle}
use Rattle.executor_model.specs.declared.event.Answer.TheVariants.{Pending, Ready}
use Rattle.executor_model.specs.declared.event.Event.TheVariants.{CallBegun, Answered, Cancelled, OutputGiven, OutputDropped}
use Rattle.executor_model.specs.Trace.{Trace, takes_handle, is_ready, is_cancelled, is_output_dropped}
use Rattle.executor_model.specs.{OutputOnce.is_output_given, Weights.same}

-- how often g was ready

abbrev pub ready_in : ℕ → Event → ℕ
ready_in g (Answered p f Ready) = same g f
ready_in g _ = 0

unfoldable pub readies : ℕ → Trace → ℕ
readies g es = count_by (is_ready g) es

one-ready : (g : ℕ) (e : Event) → cond (is_ready g e) 1 0 ≡ ready_in g e
unfolding same
one-ready g (Answered p f Ready) = refl
one-ready g (Answered p f Pending) = refl
one-ready g _ = refl

pub readies-push : (g : ℕ) (es : Trace) (e : Event) → readies g (es ++ e ∷ []) ≡ readies g es + ready_in g e
unfolding readies
readies-push g es e = omega (arith, sum_by_push (λ (x : Event). cond (is_ready g x) 1 0) es e, one-ready g e)

pub readies-none : (g : ℕ) → readies g [] ≡ 0
unfolding readies
readies-none g = refl

-- how often g was cancelled, its output given, and its handle taken

abbrev pub spent_in : ℕ → Event → ℕ
spent_in g (Cancelled p f) = same g f
spent_in g (OutputGiven p f) = same g f
spent_in g (CallBegun p (Detach f)) = same g f
spent_in g (CallBegun p (DropHandle f)) = same g f
spent_in g _ = 0

unfoldable pub spent : ℕ → Trace → ℕ
spent g es = count_by (is_cancelled g) es + (count_by (is_output_given g) es + count_by (takes_handle g) es)

one-spent : (g : ℕ) (e : Event) →
    cond (is_cancelled g e) 1 0 + (cond (is_output_given g e) 1 0 + cond (takes_handle g e) 1 0) ≡ spent_in g e
unfolding same
one-spent g (Cancelled p f) = omega arith
one-spent g (OutputGiven p f) = omega arith
one-spent g (CallBegun p (Detach f)) = omega arith
one-spent g (CallBegun p (DropHandle f)) = omega arith
one-spent g (CallBegun p _) = refl
one-spent g _ = refl

pub spent-push : (g : ℕ) (es : Trace) (e : Event) → spent g (es ++ e ∷ []) ≡ spent g es + spent_in g e
unfolding spent
spent-push g es e = omega (
  arith,
  sum_by_push (λ (x : Event). cond (is_cancelled g x) 1 0) es e,
  sum_by_push (λ (x : Event). cond (is_output_given g x) 1 0) es e,
  sum_by_push (λ (x : Event). cond (takes_handle g x) 1 0) es e,
  one-spent g e,
)

pub spent-none : (g : ℕ) → spent g [] ≡ 0
unfolding spent
spent-none g = refl

-- what an event adds to the outputs of g that were given or dropped
abbrev pub output_of : ℕ → Event → ℕ
output_of g (OutputGiven p f) = same g f
output_of g (OutputDropped p f) = same g f
output_of g _ = 0

unfoldable pub outputs : ℕ → Trace → ℕ
outputs g es = count_by (is_output_given g) es + count_by (is_output_dropped g) es

one-output : (g : ℕ) (e : Event) → cond (is_output_given g e) 1 0 + cond (is_output_dropped g e) 1 0 ≡ output_of g e
unfolding same
one-output g (OutputGiven p f) = omega arith
one-output g (OutputDropped p f) = omega arith
one-output g _ = refl

pub outputs-push : (g : ℕ) (es : Trace) (e : Event) → outputs g (es ++ e ∷ []) ≡ outputs g es + output_of g e
unfolding outputs
outputs-push g es e = omega (
  arith,
  sum_by_push (λ (x : Event). cond (is_output_given g x) 1 0) es e,
  sum_by_push (λ (x : Event). cond (is_output_dropped g x) 1 0) es e,
  one-output g e,
)

pub outputs-none : (g : ℕ) → outputs g [] ≡ 0
unfolding outputs
outputs-none g = refl
