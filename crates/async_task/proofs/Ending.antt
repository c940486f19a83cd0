-- How a run ends, and what a paused one answers, by what the end of its poll left to be done.
use Rattle.std.proofs.Common.{◌≡◌, Bool, true, false, refl, sym, subst, ap, ◌∙◌}
use Rattle.std.specs.Prelude.{Option, Some, None, Result, Ok, Err, IfSome, MatchResult, is_some, not}
use Rattle.std.proofs.lemmas.Bool.{false≢true}
use Rattle.atomic_table.specs.declared.shared.Shared.{Shared}
use Rattle.task_moves.specs.declared.schedule_info.ScheduleInfo.{ScheduleInfo}
use Rattle.task_moves.specs.declared.moves.owed.Owed.{Owed}
use Rattle.task_moves.specs.declared.local_task.answers.Back.{Back}
use Rattle.task_moves.specs.declared.local_task.answers.Back.TheVariants.{Pending}
use Rattle.task_moves.specs.Moves as moves
use Rattle.task_word.specs.declared.rule.View.{View}
use Rattle.task_word.specs.declared.tokens.runs.ClosedRun.{ClosedRun}
use Rattle.task_word.specs.Cell.{Slot}
use Rattle.task_word.specs.Tokens.{ShowsSeat}
use Rattle.async_task.specs.Awaiters.{IsLentBy}
use Rattle.async_task.specs.Rests.{was_woken_by}
use Rattle.async_task.specs.Runs.{EndsRun, ClosesBy}
use Rattle.async_task.specs.declared.cell.Kept.{Kept}
use Rattle.async_task.specs.declared.runnable.Closed.{Closed}
use Rattle.async_task.specs.declared.runnable.Closed.TheVariants.{Run}
use Rattle.async_task.specs.declared.runnable.Closing.{Closing}
use Rattle.async_task.specs.declared.runnable.RunEnd.TheVariants.{Drop}
use Rattle.async_task.specs.declared.waker.Awaiter.{Awaiter}

-- what the schedule value is passed is what the step says
pub woken_as_owed : (owed told : Option ScheduleInfo) (woken : Bool) → IfSome told (λ info. owed ≡ Some info) → is_some told ≡ is_some owed
    → woken ≡ was_woken_by told → woken ≡ was_woken_by owed
woken_as_owed owed (Some info) woken t q w = w ∙ ap was_woken_by (sym t)
woken_as_owed (Some info) None woken t q w = absurd (false≢true q)
woken_as_owed None None woken t q w = w

module _ {F T S M W R K P : Type 0} where
  -- a run whose task was closed meanwhile ends as its closing call, by the move that found that
  pub ends_closed : (board : Shared (Slot F T (Kept W)) View K P) (waker : Awaiter F T S M W R) (back : Back F T) (future dropped : F)
      (closing : Closing F T S M W R) (closed : ClosedRun F T (Kept W)) (owed : Owed) → back ≡ Pending future → dropped ≡ future
      → IsLentBy waker closing.held → closing.closed ≡ Run closed → ShowsSeat board moves.end_pending owed closed.pass
      → is_some owed.next ≡ true → is_some owed.future ≡ true → EndsRun board waker back (Drop dropped closing)
  ends_closed board waker back future dropped closing closed owed b d w c shows next out =
      subst (λ (x : Back F T). EndsRun board waker x (Drop dropped closing)) (sym b)
      (d, w, subst (λ (x : Closed F T W). ClosesBy board x) (sym c) (owed, shows, next, out))

-- where there is no `Ok`, something comes next
pub comes_next : (x : Bool) → false ≡ not x → x ≡ true
comes_next true e = refl
comes_next false e = absurd (false≢true e)

-- what holds in the case of an `Err`
pub at_err : {A E : Type 0} (ok : A → Type 0) (err : E → Type 0) (result : Result A E) (error : E) → result ≡ Err error
    → MatchResult result ok err → err error
at_err ok err result error e m = subst (λ r. MatchResult r ok err) e m

-- and in that of an `Ok`
pub at_ok : {A E : Type 0} (ok : A → Type 0) (err : E → Type 0) (result : Result A E) (value : A) → result ≡ Ok value
    → MatchResult result ok err → ok value
at_ok ok err result value e m = subst (λ r. MatchResult r ok err) e m

-- what a claim shows in either case
pub shown : {A E C : Type 0} (P : C → Type 0) (f : A → C) (g : E → C) (result : Result A E)
    → MatchResult result (λ value. P (f value)) (λ error. P (g error)) → (claim : C) × P claim
shown P f g (Ok value) m = (f value, m)
shown P f g (Err error) m = (g error, m)
