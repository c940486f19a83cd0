-- What a poll without an output leaves due.
use Rattle.std.proofs.Common.{◌≡◌, sym, ap, ◌∙◌}
use Rattle.std.specs.Prelude.{Option, Some, None, IfSome, MatchOption}
use Rattle.async_task.specs.Awaiters.{identity_of, IsLentBy}
use Rattle.async_task.specs.Handles.{Handle}
use Rattle.async_task.specs.declared.cell.Identity.{Identity}
use Rattle.async_task.specs.declared.cell.scheduled.Due.{Due}
use Rattle.async_task.specs.declared.waker.Awaiter.{Awaiter}
use Rattle.async_task.specs.declared.waker.Awaiter.TheVariants.{Task, Lent, Outside}

abbrev name_or : Identity → Option Identity → Identity
name_or other (Some name) = name
name_or other None = other

module _ {F T S M W R : Type 0} where
  lent_by : (waker : Awaiter F T S M W R) (task : Handle M) (name : Identity) → identity_of waker ≡ Some name → IsLentBy waker task → task.identity ≡ name
  lent_by (Task waker) task name named lent = absurd lent
  lent_by (Lent waker) task name named lent = ap (λ (z : Handle M). z.identity) (sym lent) ∙ ap (λ (z : Option Identity). name_or name z) named
  lent_by (Outside waker) task name named lent = absurd lent

  -- the task that is due is the one that was polled
  pub due_is_its_own : (A : Type 0) (B : Due F T S M W R → Type 0) (waker : Awaiter F T S M W R) (due : Option (Due F T S M W R)) (name : Identity)
      → identity_of waker ≡ Some name → MatchOption due A (λ due. IsLentBy waker due.runnable × B due)
      → IfSome due (λ due. due.runnable.identity ≡ name)
  due_is_its_own A B waker None name named it = tt
  due_is_its_own A B waker (Some due) name named it = lent_by waker due.runnable name named it.0
