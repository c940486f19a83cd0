-- That a leak and the end of an executor go as `next` says.
use Rattle.std.specs.Prelude.{◌≡◌, ℕ, zero, suc, ◌++◌, length, slice_get, false, List, [], ◌∷◌, Option, Some, None}
use Rattle.executor_parts.specs.declared.mark.Mark.{Mark}
use Rattle.executor_parts.specs.declared.mark.Mark.TheVariants.{Urgent}
use Rattle.executor_parts.specs.Places.{Entry}
use Rattle.call_steps.specs.declared.step.CallStep.TheVariants as step
use Rattle.call_steps.specs.declared.step.table.ClosingStep.TheVariants as closing_step
use Rattle.call_steps.specs.declared.step.user.UserStep.TheVariants as user_step
use Rattle.call_steps.specs.Closing.{closing as closes_by}
use Rattle.call_steps.specs.declared.asked.Asked.TheVariants as asks
use Rattle.call_steps.specs.declared.reply.Reply.TheVariants as reply
use Rattle.call_steps.specs.Begins.{begins}
use Rattle.solo.specs.declared.names.Task.{Task}
use Rattle.solo.specs.declared.owed.Told.{Told}
use Rattle.solo.specs.declared.solo.Solo.{Solo}
use Rattle.solo.specs.Cells.{asked}
use Rattle.solo.specs.Cells as cells
use Rattle.solo.specs.Closing as closing
use Rattle.solo.specs.Lines.{found_from}
use Rattle.solo_laws.specs.Seen.{named_by}
use Rattle.solo_laws.specs.Going.{Going, Out, quiet, calm}
use Rattle.solo_laws.specs.Goes.{goes}
use Rattle.solo_laws.specs.HandedOut.{deep, telling, ends, handing}
use Rattle.solo_laws.specs.PollsGo.{left_by_place, taken_back}

module _ {F T X : Type 0} where
  abbrev pub leaks_on : ℕ → Solo F T X → Out F T X → Going F T X
  leaks_on zero s out = ends s reply.Done out
  leaks_on (suc wakers) s out =
      record (calm s) { out = out; left = step.Closing closing_step.LeakNext ∷ step.End reply.Done ∷ [] }

  abbrev pub LeaksGo : Solo F T X → Type 0
  LeaksGo s =
      goes deep (begins asks.Leak) (calm s) ≡ leaks_on (length (closing.leaked s).leaving.items) (closing.leaked s) quiet

  abbrev pub leaks_next : Option Task → Solo F T X → Going F T X
  leaks_next (Some task) s =
      leaks_on (length s.leaving.items) (closing.leaving_woken task s) (telling (closing.leaving_answer task s))
  leaks_next None s = record (ends s reply.Done quiet) { pauses = false }

  abbrev pub telling_if : Option (Told X) → Out F T X
  telling_if (Some told) = telling told
  telling_if None = quiet

  -- one of those that the leak has taken out is called
  abbrev pub LeakNextsGo : Solo F T X → Type 0
  LeakNextsGo s =
      (goes deep (step.Closing closing_step.LeakNext ∷ step.End reply.Done ∷ []) (record (calm s) { pauses = false })
      ≡ leaks_next (slice_get s.leaving.items 0) (closing.first_left s))
      × ((leaks_next (slice_get s.leaving.items 0) (closing.first_left s)).solo ≡ closing.leak_woken s)
      × (record (leaks_next (slice_get s.leaving.items 0) (closing.first_left s)).out { reply = None }
      ≡ telling_if (closing.leak_answer s))

  abbrev pub ClosesGo : Solo F T X → Type 0
  ClosesGo s =
      goes deep (begins asks.DropExecutor) (calm s)
      ≡ record (calm (closing.closed s)) {
        left = closes_by (length s.table.entries) (length s.leaving.items) ++ step.End reply.Done ∷ [];
      }

  abbrev pub drains_line : Option Task → Mark → Solo F T X → Going F T X
  drains_line (Some task) mark s = record (taken_back task s) {
    left = left_by_place (asked cells.retract_answer None task s.cells) task s
        ++ step.Closing (closing_step.Drain mark) ∷ step.End reply.Done ∷ [];
  }
  drains_line None mark s = record (ends s reply.Done quiet) { pauses = false }

  -- each call of `drain` does one thing: it drops a future, calls a waker, or takes a queued task back
  abbrev pub drains : List (Entry F (Option Task)) → List Task → Solo F T X → Going F T X
  drains (e ∷ es) wakers s = record (calm (closing.drained s)) {
    out = handing (closing.drain_answer s);
    left = step.User (user_step.Drop (named_by e.waker))
        ∷ closes_by (length es) (length (closing.drained s).leaving.items) ++ step.End reply.Done ∷ [];
  }
  drains [] (waker ∷ wakers) s = record (calm (closing.drained s)) {
    out = handing (closing.drain_answer s);
    left = closes_by 0 (length wakers) ++ step.End reply.Done ∷ [];
  }
  drains [] [] s =
      drains_line
      (found_from Urgent (closing.shut_line s).lines).task
      (found_from Urgent (closing.shut_line s).lines).mark
      (closing.first_out (closing.shut_line s))

  abbrev pub DrainsGo : Solo F T X → Type 0
  DrainsGo s =
      (goes deep (closes_by (length s.going.entries) (length s.leaving.items) ++ step.End reply.Done ∷ [])
      (record (calm s) { pauses = false })
      ≡ drains s.going.entries s.leaving.items s)
      × ((drains s.going.entries s.leaving.items s).solo ≡ closing.drained s)
      × (record (drains s.going.entries s.leaving.items s).out { reply = None } ≡ handing (closing.drain_answer s))
