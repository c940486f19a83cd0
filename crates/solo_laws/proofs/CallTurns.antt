-- What leaves the number of the next turn as it was, of what calls do; and a run that finds none takes one.
use Rattle.std.proofs.Common.{◌≡◌, ◌+◌, ◌^◌, ◌%◌, ℕ, zero, suc, List, Bool, false, Option, Some, None, refl, slice_get}
use Rattle.solo.specs.declared.names.Task.{Task}
use Rattle.solo.specs.declared.names.SoloWaker.{SoloWaker}
use Rattle.solo.specs.declared.names.SoloWaker.TheVariants.{Task as OfTask, Outside}
use Rattle.solo.specs.declared.cells.After.{After}
use Rattle.solo.specs.declared.cells.After.TheVariants.{Queue, Rest, Drop as DropFuture, Unknown}
use Rattle.solo.specs.declared.owed.Lent.{Lent}
use Rattle.solo.specs.declared.owed.Owed.{Owed}
use Rattle.solo.specs.declared.runs.Leaving.{Leaving}
use Rattle.solo.specs.declared.solo.Solo.{Solo}
use Rattle.solo.specs.OwnQueues as own
use Rattle.solo.specs.Cells.{asked}
use Rattle.solo.specs.Cells as cells
use Rattle.solo.specs.Closing as closing
use Rattle.solo.specs.Lines.{search_answer}
use Rattle.solo.specs.Runs as runs
use Rattle.solo.specs.Solo as solo
use Rattle.solo.specs.Steals as steals
use Rattle.solo.specs.Turns as turns
use Rattle.plain_scheduler.specs.State.{Choice, Event, Plain}
use Rattle.plain_scheduler.specs.Lists.{on, repeat}
use Rattle.plain_scheduler.specs.Calls.{Call}
use Rattle.solo_laws.specs.Alike.{calls, cancelled, copies, handle_polled, lets_go, registered, replaced_by}
use Rattle.solo_laws.specs.Courses as courses
use Rattle.solo_laws.specs.Courses.{Makes}
use Rattle.solo_laws.specs.Dropping.{after_drop}
use Rattle.solo_laws.specs.RunGoing.{IsEnding, Stage, poll_ends, drop_ends, loss_ends}
use Rattle.solo_laws.specs.Running.{drains, more_left}
use Rattle.solo_laws.proofs.Prompt.{chosen}
use Rattle.solo_laws.proofs.Turning.{At, begun_at, left_at, let_go_at, lined_if_at, run_drained_at, scheduled_at, scheduled_if_at}
use Rattle.solo_laws.proofs.Turning.{further_at, searched_turn, told_at}

module _ {F T X : Type 0} where
  module _ (t : ℕ) where
    pub woken_at : (task : Task) (s : Solo F T X) → At t s → At t (solo.woken task s)
    woken_at task s at =
        scheduled_if_at t (asked cells.wake_queues false task s.cells) task (turns.turned cells.woken task s) at

    pub cancel_at : (task : Task) (s : Solo F T X) → At t s → At t (solo.cancelled task s)
    cancel_at task s at = scheduled_if_at t _ task (turns.turned cells.cancelled task s) at

    pub detached_at : (task : Task) (s : Solo F T X) → At t s → At t (solo.detached task s)
    detached_at task s at = scheduled_if_at t _ task (turns.turned cells.detached task s) at

    pub used_at : (task : Task) (s : Solo F T X) → At t s → At t (solo.woken_and_released task s)
    used_at task s at =
        scheduled_if_at t (solo.wakes_or_closes task s) task (turns.turned cells.released task (turns.turned cells.woken task s)) at

    pub calls_at : (w : Option (SoloWaker X)) (s : Solo F T X) → At t s → At t (calls w s)
    calls_at (Some (OfTask task)) s at = used_at task s at
    calls_at (Some (Outside x)) s at = at
    calls_at None s at = at

    pub lets_go_at : (w : Option (SoloWaker X)) (s : Solo F T X) → At t s → At t (lets_go w s)
    lets_go_at (Some (OfTask task)) s at = let_go_at t task s at
    lets_go_at (Some (Outside x)) s at = at
    lets_go_at None s at = at

    pub copies_at : (w : SoloWaker X) (s : Solo F T X) → At t s → At t (copies w s)
    copies_at (OfTask task) s at = at
    copies_at (Outside x) s at = at

    pub cancelled_at : (task : Task) (s : Solo F T X) → At t s → At t (cancelled task s)
    cancelled_at task s at = calls_at (solo.cancel_answer task s).awaiter (solo.cancelled task s) (cancel_at task s at)

    pub registered_at : (task : Task) (w : SoloWaker X) (s : Solo F T X) → At t s → At t (registered task w s)
    registered_at task w s at = lets_go_at (replaced_by (solo.poll_answer task w s)) (solo.polled task w s) at

    pub handle_at : (copied : Bool) (task : Task) (w : SoloWaker X) (s : Solo F T X) → At t s → At t (handle_polled copied task w s)
    handle_at copied task w s at =
        chosen (At t) (solo.must_wait task s) _ (solo.polled task w s)
        (chosen (At t) copied (registered task w (copies w s)) s (registered_at task w (copies w s) (copies_at w s at)) at) at

    pub taken_by_at : (task : Option Task) (s : Solo F T X) → At t s → At t (solo.taken_by task s)
    taken_by_at None s at = at
    taken_by_at (Some task) s at = begun_at t task (turns.told s) (told_at t s at)

    pub pending_at : (after : After) (lent : Lent) (future : F) (s : Solo F T X) → At t s → At t (solo.pending_by after lent future s)
    pending_at DropFuture lent future s at = at
    pending_at Unknown lent future s at = at
    pending_at Rest lent future s at = at
    pending_at Queue lent future s at = scheduled_at t lent.task (solo.put_back lent future s) at

    pub after_at : (owed : Owed F T X) (s : Solo F T X) → At t s → At t (after_drop owed s)
    after_at owed s at =
        chosen (At t) _ s (calls owed.awaiter (lets_go owed.old s)) at
        (calls_at owed.awaiter (lets_go owed.old s) (lets_go_at owed.old s at))

    pub ready_at : (lent : Lent) (v : T) (s : Solo F T X) → At t s → At t (solo.settled_ready lent v s)
    ready_at lent v s at = left_at t lent.place s at

    pub finished_at : (lent : Lent) (s : Solo F T X) → At t s → At t (solo.finished lent s)
    finished_at lent s at = left_at t lent.place s at

    pub leak_woken_at : (s : Solo F T X) → At t s → At t (closing.leak_woken s)
    leak_woken_at s at = by (slice_get s.leaving.items 0) (closing.first_left s) at
      where
        by : (task : Option Task) (s : Solo F T X) → At t s → At t (closing.leak_woken_by task s)
        by (Some task) s at =
            lined_if_at t (asked cells.release_queues false task (solo.woken task s).cells) task
            (turns.turned cells.released task (solo.woken task s)) (woken_at task s at)
        by None s at = at

    pub leaked_at : (n : ℕ) (s : Solo F T X) → At t s → At t (repeat n closing.leak_woken s)
    leaked_at zero s at = at
    leaked_at (suc n) s at = leaked_at n (closing.leak_woken s) (leak_woken_at s at)

    pub drains_at : (n : ℕ) (leaving : Leaving) (s : Solo F T X) → At t s → At t (drains n leaving s)
    drains_at zero leaving s at = at
    drains_at (suc n) leaving s at =
        by (more_left (runs.drain_answer leaving s)) (λ more here. drains_at n more (runs.drained leaving s) here)
        (run_drained_at t (runs.first_left leaving.own) leaving.ticker s at)
      where
        by : (more : Option Leaving)
            → ((more : Leaving) → At t (runs.drained leaving s) → At t (drains n more (runs.drained leaving s)))
            → At t (runs.drained leaving s) → At t (on more (drains n) (runs.drained leaving s))
        by (Some more) on here = on more here
        by None on here = here

  -- a run that keeps none searches further, and takes a turn; so does one that finds none
  pub by_none : (o : Option Task) (r start : ℕ) (s : Solo F T X) → o ≡ None
      → (steals.sought_by o r start s).lines.turn ≡ (s.lines.turn + 1) % 2 ^ 64
  by_none (Some task) r start s none = absurd cc
  by_none None r start s none =
      further_at ((s.lines.turn + 1) % 2 ^ 64) (search_answer s.lines).task (search_answer s.lines).mark r start (solo.popped s)
      (searched_turn s.lines)

  pub none_own : (o : Option Task) (r start : ℕ) (s : Solo F T X) → (steals.seek_answer_by o r start s).task ≡ None → o ≡ None
  none_own (Some task) r start s none = none
  none_own None r start s none = refl

  pub sought_turn : (r start : ℕ) (s : Solo F T X) → (steals.seek_answer r start s).task ≡ None
      → (steals.sought r start s).lines.turn ≡ (s.lines.turn + 1) % 2 ^ 64
  sought_turn r start s none =
      let o = own.first_of r s.runs in
      by_none o r start (steals.own_popped r s) (none_own o r start (steals.own_popped r s) none)

  -- and the end of what a user's code does to a future
  pub ends_turn : (its : ℕ → Lent) (c : Choice) (s z : Solo F T X) (p : Plain T (SoloWaker X)) (stage : Stage T (SoloWaker X))
      (call : Call T (SoloWaker X)) (shown : List (Event T (SoloWaker X))) → IsEnding stage call → Makes its c s p call shown z
      → z.lines.turn ≡ s.lines.turn
  ends_turn its c s z p stage call shown (poll_ends g) (courses.pends f by rest future one is life) =
      pending_at s.lines.turn (solo.after_poll (its f) s) (its f) future
      (turns.turned (cells.ended_pending (its f).place) (its f).task s) refl
  ends_turn its c s z p stage call shown (drop_ends g end) (courses.ends_given f v by rest one is life) =
      after_at s.lines.turn (solo.settle_ready_answer (its f) v s) (solo.settled_ready (its f) v s) (ready_at s.lines.turn (its f) v s refl)
  ends_turn its c s z p stage call shown (drop_ends g end) (courses.ends_closed f by rest one is life) =
      after_at s.lines.turn (solo.finish_answer (its f) s) (solo.finished (its f) s) (finished_at s.lines.turn (its f) s refl)
  ends_turn its c s z p stage call shown (drop_ends g end) (courses.loses awaiter by rest one is life) =
      calls_at s.lines.turn awaiter s refl
  ends_turn its c s z p stage call shown (loss_ends awaiter) (courses.ends_given f v by rest one is life) =
      after_at s.lines.turn (solo.settle_ready_answer (its f) v s) (solo.settled_ready (its f) v s) (ready_at s.lines.turn (its f) v s refl)
  ends_turn its c s z p stage call shown (loss_ends awaiter) (courses.ends_closed f by rest one is life) =
      after_at s.lines.turn (solo.finish_answer (its f) s) (solo.finished (its f) s) (finished_at s.lines.turn (its f) s refl)
  ends_turn its c s z p stage call shown (loss_ends awaiter') (courses.loses awaiter by rest one is life) =
      calls_at s.lines.turn awaiter s refl
