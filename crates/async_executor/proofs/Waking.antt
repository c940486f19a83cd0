-- What a leak, or an executor's drop, does next where it calls a waker that came out of the table.
use Rattle.std.proofs.Common.{◌≡◌, ℕ, Bool, true, false, [], ◌∷◌, Option, inl, inr, refl, sym, subst}
use Rattle.std.proofs.lemmas.Option.{none-some, same_Some}
use Rattle.async_task.specs.declared.cell.Identity.{Identity}
use Rattle.call_steps.specs.Fitting.{Fits}
use Rattle.call_steps.specs.Seeing.{woke}
use Rattle.call_steps.specs.Todo.{following, top}
use Rattle.call_steps.specs.declared.step.CallStep.{CallStep}
use Rattle.call_steps.specs.declared.step.CallStep.TheVariants as step
use Rattle.call_steps.specs.declared.step.table.QueueStep.TheVariants as queue_step
use Rattle.async_executor.specs.Closing.{CallsWaker}
use Rattle.async_executor.specs.Polling.{Todo}

-- that can see that it was woken
pub sees_waking :
    (next : Option (CallStep Identity (Unit {0}))) (f : Identity) (due : Bool) (left : ℕ)
    → CallsWaker next → Fits next (woke f due left)
sees_waking next f due left (inl e) = subst (λ n. Fits n (woke f due left)) (sym e) tt
sees_waking next f due left (inr e) = subst (λ n. Fits n (woke f due left)) (sym e) tt

-- and where its Runnable is due, that is appended before anything else
pub appends_first :
    (todo : Todo) (f : Identity) (left : ℕ)
    → CallsWaker (top todo)
    → following (woke f true left) todo ≡ step.Queue (queue_step.Append f) ∷ following (woke f false left) todo
appends_first [] f left (inl e) = absurd (none-some _ e)
appends_first [] f left (inr e) = absurd (none-some _ e)
appends_first (o ∷ rest) f left (inl e) =
    subst (λ x. following (woke f true left) (x ∷ rest) ≡ step.Queue (queue_step.Append f) ∷ following (woke f false left) (x ∷ rest))
    (sym (same_Some _ _ e)) refl
appends_first (o ∷ rest) f left (inr e) =
    subst (λ x. following (woke f true left) (x ∷ rest) ≡ step.Queue (queue_step.Append f) ∷ following (woke f false left) (x ∷ rest))
    (sym (same_Some _ _ e)) refl
