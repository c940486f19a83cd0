-- For calls_do_what_they_say and own_queues_agree.
-- What many more events leave of a trace, where none of them passes a test.
use Rattle.std.proofs.Common.{◌≡◌, ◌∙◌, [], ◌∷◌, ◌++◌, Bool, false, ◌||◌, sym, ap, subst, append-nil}
use Rattle.std.{proofs.lemmas.List.append_assoc, proofs.lemmas.List.Folds.list_any-append}
use Rattle.executor_model.specs.Trace.{Trace, has}
use Rattle.executor_model.proofs.{Types.Event, Steps.Tests.left-false, Steps.Tests.right-false}

pub has-append : (test : Event → Bool) (xs ys : Trace) → has test xs ≡ false → has test ys ≡ false →
    has test (xs ++ ys) ≡ false
has-append test xs ys a b = list_any-append test xs ys ∙ (ap (λ (x : Bool). x || has test ys) a ∙ b)

-- many more events, each of which keeps it
pub over-more : (P : Trace → Type 0) (t : Event → Bool) →
    ((es : Trace) (e : Event) → t e ≡ false → P es → P (es ++ e ∷ [])) → (es more : Trace) → has t more ≡ false →
    P es → P (es ++ more)
over-more P t k es [] z h = subst P (sym (append-nil es)) h
over-more P t k es (e ∷ more) z h =
    subst P (append_assoc es (e ∷ []) more)
    (over-more P t k (es ++ e ∷ []) more (right-false (t e) _ z) (k es e (left-false (t e) _ z) h))
