-- What the end of a drop leaves of a task that is kept, and what goes out of it.
use Rattle.std.proofs.Common.{◌≡◌, not, ◌&&◌, ◌||◌, if◌then◌else◌, Bool, true, false, List, Option, Some, None, is_some, refl, sym, ap}
use Rattle.std.proofs.Common.{subst, ◌∙◌}
use Rattle.task_moves.specs.AbstractTask as abstract
use Rattle.task_moves.specs.AbstractTask.{AbstractTask, Phase, Idle, Queued, Polling, PollingWoken, Finished}
use Rattle.task_moves.specs.LocalTask as local
use Rattle.task_moves.specs.declared.local_task.answers.Back.TheVariants.{Ready}
use Rattle.task_moves.specs.declared.local_task.answers.FuturePlace.TheVariants.{Gone}
use Rattle.task_moves.specs.LocalTask.{told as told_of, is_home, finish_answer_by}
use Rattle.solo.specs.declared.names.SoloWaker.{SoloWaker}
use Rattle.solo.specs.Cells.{Kept, choose}
use Rattle.solo.specs.Cells as cells
use Rattle.solo.specs.Solo as solo
use Rattle.plain_scheduler.specs.State.{Future}
use Rattle.solo_laws.specs.Road.{IsTaskOf, is_done, is_forgotten}
use Rattle.solo_laws.proofs.Following.Due.{clash}
use Rattle.solo_laws.proofs.Following.Inside.{home_lent, home_dropping, lent_dropping}

-- what ends leave of a task that is kept
module _ {T X : Type 0} where
  pub finish_awaits : (u : AbstractTask T (SoloWaker X)) → (local.finish u).task.awaiter ≡ None
  finish_awaits u = by u.phase
    where
      by : (phase : Phase) → (local.finish_by phase u).task.awaiter ≡ None
      by Idle = refl
      by Queued = refl
      by Polling = refl
      by PollingWoken = refl
      by Finished = refl

  pub finish_drops : (u : AbstractTask T (SoloWaker X)) → (local.finish u).dropped ≡ None
  finish_drops u = by u.phase
    where
      by : (phase : Phase) → (local.finish_by phase u).dropped ≡ None
      by Idle = refl
      by Queued = refl
      by Polling = refl
      by PollingWoken = refl
      by Finished = refl

  -- who awaits it is called, or let go
  pub finish_calls : (u : AbstractTask T (SoloWaker X)) → solo.called (local.finish_answer u) ≡ (local.finish u).called
  finish_calls u = by u.phase u.awaiter
    where
      calls : (o l : Option (SoloWaker X)) → solo.called (finish_answer_by o l) ≡ o
      calls None None = refl
      calls None (Some w) = refl
      calls (Some w) l = refl

      by : (phase : Phase) (o : Option (SoloWaker X))
          → solo.called (finish_answer_by (local.finish_by phase u).called (local.finish_by phase u).let_go)
          ≡ (local.finish_by phase u).called
      by phase o = calls (local.finish_by phase u).called (local.finish_by phase u).let_go

  pub finish_lets_go : (u : AbstractTask T (SoloWaker X)) → solo.dropped (local.finish_answer u) ≡ (local.finish u).let_go
  finish_lets_go u = by u.phase
    where
      lets : (l : Option (SoloWaker X)) → solo.dropped (finish_answer_by None l) ≡ l
      lets None = refl
      lets (Some w) = refl

      none : (o : Option (SoloWaker X)) → solo.dropped (finish_answer_by o None) ≡ None
      none None = refl
      none (Some w) = refl

      by : (phase : Phase)
          → solo.dropped (finish_answer_by (local.finish_by phase u).called (local.finish_by phase u).let_go)
          ≡ (local.finish_by phase u).let_go
      by Idle = none u.awaiter
      by Queued = none u.awaiter
      by Polling = none u.awaiter
      by PollingWoken = none u.awaiter
      by Finished = lets u.awaiter

  pub finish_waker : (u : AbstractTask T (SoloWaker X)) (w : SoloWaker X)
      → ((local.finish u).called ≡ Some w → u.awaiter ≡ Some w) × ((local.finish u).let_go ≡ Some w → u.awaiter ≡ Some w)
  finish_waker u w = by u.phase
    where
      by : (phase : Phase) → ((local.finish_by phase u).called ≡ Some w → u.awaiter ≡ Some w)
          × ((local.finish_by phase u).let_go ≡ Some w → u.awaiter ≡ Some w)
      by Idle = (λ is. is, λ is. absurd cc)
      by Queued = (λ is. is, λ is. absurd cc)
      by Polling = (λ is. is, λ is. absurd cc)
      by PollingWoken = (λ is. is, λ is. absurd cc)
      by Finished = (λ is. absurd cc, λ is. is)

  pub finished_is : (v : Kept T X) (x : Future T (SoloWaker X)) → cells.is_dropping v ≡ true → IsTaskOf v x
      → IsTaskOf (cells.finished v) (record x { task = told_of (local.finish x.task).task })
  finished_is v x drops of =
      subst (λ w. IsTaskOf w (record x { task = told_of (local.finish x.task).task }))
      (sym (ap (λ b. choose b (record v { task = (local.finish v.task).task; future = Gone }) v) drops))
      (record {
        task = ap (λ t. (local.finish t).task) of.task ∙ by x.task.phase;
        mark = of.mark;
        told = refl;
        idle = λ idle. absurd (clash (over x.task.phase) idle);
        done = λ gone. done x.task.phase;
        reached = reached x.task.phase;
        there = λ home. absurd cc;
        closing = λ goes. absurd cc;
      })
    where
      by : (phase : Phase) → (local.finish_by phase x.task).task ≡ told_of (local.finish_by phase x.task).task
      by Idle = ap (λ (infos : List Bool). record x.task { phase = Finished; awaiter = None; infos = infos }) of.told
      by Queued = ap (λ (infos : List Bool). record x.task { phase = Finished; awaiter = None; infos = infos }) of.told
      by Polling = ap (λ (infos : List Bool). record x.task { phase = Finished; awaiter = None; infos = infos }) of.told
      by PollingWoken = ap (λ (infos : List Bool). record x.task { phase = Finished; awaiter = None; infos = infos }) of.told
      by Finished =
          ap (λ (infos : List Bool). record x.task { phase = Finished; closed = true; awaiter = None; infos = infos }) of.told

      over : (phase : Phase) → abstract.is_idle (local.finish_by phase x.task).task.phase ≡ false
      over Idle = refl
      over Queued = refl
      over Polling = refl
      over PollingWoken = refl
      over Finished = refl

      reached : (phase : Phase) → is_forgotten (told_of (local.finish_by phase x.task).task) ≡ false
      reached Idle = refl
      reached Queued = refl
      reached Polling = refl
      reached PollingWoken = refl
      reached Finished = refl

      closed : (x.task.closed || is_some x.task.output) ≡ true
      closed = ap (λ b. b || is_some x.task.output) (of.closing drops)

      done : (phase : Phase) → is_done (told_of (local.finish_by phase x.task).task) ≡ true
      done Idle = closed
      done Queued = closed
      done Polling = closed
      done PollingWoken = closed
      done Finished = refl

  pub given_is : (y : T) (v : Kept T X) (x : Future T (SoloWaker X)) → cells.is_lent v ≡ true → IsTaskOf v x
      → IsTaskOf (cells.ended_ready y v) (record x { task = told_of (abstract.end_ready y x.task).task })
  given_is y v x lent of =
      subst (λ w. IsTaskOf w (record x { task = told_of (abstract.end_ready y x.task).task }))
      (sym (ap (λ b. choose b (cells.settled (local.settle (Ready y) v.task) v) v) lent))
      (record {
        task = ap (λ t. told_of (abstract.end_ready y t).task) of.task;
        mark = of.mark;
        told = refl;
        idle = λ idle. absurd cc;
        done = λ gone. done (x.task.handle && not x.task.closed);
        reached = refl;
        there = λ home. absurd cc;
        closing = λ goes. absurd cc;
      })
    where
      done : (kept : Bool) → (not kept || is_some (if kept then Some y else None)) ≡ true
      done true = refl
      done false = refl

  pub lent_away : (v : Kept T X) → cells.is_lent v ≡ true → is_home v.future ≡ false
  lent_away v is = by (is_home v.future) refl
    where
      by : (b : Bool) → is_home v.future ≡ b → b ≡ false
      by false home = refl
      by true home = absurd (clash (home_lent v.future home) is)

  pub dropping_away : (v : Kept T X) → cells.is_dropping v ≡ true → is_home v.future ≡ false
  dropping_away v is = by (is_home v.future) refl
    where
      by : (b : Bool) → is_home v.future ≡ b → b ≡ false
      by false home = refl
      by true home = absurd (clash (home_dropping v.future home) is)

  pub dropping_not_lent : (v : Kept T X) → cells.is_dropping v ≡ true → cells.is_lent v ≡ false
  dropping_not_lent v is = by (cells.is_lent v) refl
    where
      by : (b : Bool) → cells.is_lent v ≡ b → b ≡ false
      by false lent = refl
      by true lent = absurd (clash (lent_dropping v.future lent) is)
