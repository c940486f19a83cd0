-- That the end of a poll and of a future's drop go as `next` says, and a task that is taken back.
use Rattle.std.specs.Prelude.{◌≡◌, true, List, [], ◌∷◌, Option, Some, None}
use Rattle.executor_parts.specs.declared.places.EntryPlace.{EntryPlace}
use Rattle.executor_parts.specs.Places.{entry_in, future_of, parts_of}
use Rattle.task_moves.specs.AbstractTask as abstract
use Rattle.task_moves.specs.declared.moves.owed.Move.TheVariants as move
use Rattle.call_steps.specs.declared.saw.Saw.TheVariants as saw
use Rattle.call_steps.specs.declared.step.CallStep.TheVariants as step
use Rattle.call_steps.specs.declared.step.handle.HandleStep.TheVariants as handle_step
use Rattle.call_steps.specs.declared.step.table.QueueStep.TheVariants as queue_step
use Rattle.call_steps.specs.declared.step.user.UserStep.TheVariants as user_step
use Rattle.solo.specs.declared.names.Task.{Task}
use Rattle.solo.specs.declared.owed.Lent.{Lent}
use Rattle.solo.specs.declared.solo.Solo.{Solo}
use Rattle.solo.specs.Cells.{asked}
use Rattle.solo.specs.Cells as cells
use Rattle.solo.specs.Closing as closing
use Rattle.solo.specs.Solo as solo
use Rattle.solo_laws.specs.Seen.{poll_end}
use Rattle.solo_laws.specs.Going.{Going, Step, calm}
use Rattle.solo_laws.specs.HandedOut.{IsLent, to_drop, owing, resumes}

-- the future of a closed task is dropped, and of one that nobody can reach
abbrev pub left_by_end : Option abstract.PendingEnd → Task → List Step
left_by_end (Some abstract.PendingEnd.Drops) task = to_drop task (step.Move move.EndClosed task ∷ [])
left_by_end (Some abstract.PendingEnd.Forgets) task = to_drop task (step.Handle (handle_step.LetGo task) ∷ [])
left_by_end _ task = []

abbrev pub left_by_future : {F : Type 0} → Option F → Task → List Step
left_by_future (Some future) task = to_drop task (step.Move move.SettleClosed task ∷ [])
left_by_future None task = []

abbrev pub waker_in : {F : Type 0} → Option (Option F × Option Task) → Option Task
waker_in None = None
waker_in (Some parts) = parts.1

module _ {F T X : Type 0} where
  -- an entry counts a waker of its own future's task, or none
  abbrev pub IsOwn : Lent → Solo F T X → Type 0
  IsOwn lent s = (task : Task) → waker_in (parts_of (entry_in lent.place s.table.entries)) ≡ Some task → task ≡ lent.task

  abbrev pub at : Lent → Solo F T X → Going F T X
  at lent s = record (calm s) { place = Some lent.place }

  -- one that gave an output is dropped, and then comes the rest
  abbrev pub ReadySettlesGo : Solo F T X → Type 0
  ReadySettlesGo s = (lent : Lent) (output : T) → IsOwn lent s →
      (resumes saw.Ready (step.User (user_step.Poll lent.task) ∷ []) (calm s)
      ≡ record (calm s) { left = to_drop lent.task (step.Move move.EndReady lent.task ∷ []) })
      × (resumes saw.Nothing (to_drop lent.task (step.Move move.EndReady lent.task ∷ [])) (record (at lent s) { given = Some output })
      ≡ record (at lent (solo.settled_ready lent output s)) { out = owing (solo.settle_ready_answer lent output s) })

  abbrev pub pended : Lent → F → Solo F T X → Going F T X
  pended lent future s = record (at lent (solo.settled_pending lent future s)) {
    out = owing (solo.settle_pending_answer lent future s);
    left = left_by_end (asked poll_end None lent.task s.cells) lent.task;
  }

  abbrev pub PendingSettlesGo : Solo F T X → Type 0
  PendingSettlesGo s = (lent : Lent) (future : F) →
      (resumes saw.Pending (step.User (user_step.Poll lent.task) ∷ []) (record (at lent s) { back = Some future })
      ≡ pended lent future s)
      × IsLent (pended lent future s)

  abbrev pub FinishesBy : Step → Lent → Solo F T X → Type 0
  FinishesBy last lent s =
      resumes saw.Nothing (to_drop lent.task (last ∷ [])) (at lent s)
      ≡ record (at lent (solo.finished lent s)) { out = owing (solo.finish_answer lent s) }

  -- behind the last drop of a future; where nobody could reach its task, nobody is called
  abbrev pub FinishesGo : Solo F T X → Type 0
  FinishesGo s = (lent : Lent) → IsOwn lent s →
      FinishesBy (step.Move move.SettleClosed lent.task) lent s × FinishesBy (step.Move move.EndClosed lent.task) lent s
      × ((solo.finish_answer lent s).awaiter ≡ None → FinishesBy (step.Handle (handle_step.LetGo lent.task)) lent s)

  -- what is left of a task that is taken back, by its place and its future there
  abbrev pub left_by_place : Option EntryPlace → Task → Solo F T X → List Step
  left_by_place (Some place) task s = left_by_future (future_of (entry_in place s.table.entries)) task
  left_by_place None task s = []

  abbrev pub taken_back : Task → Solo F T X → Going F T X
  taken_back task s = record (calm (closing.retracted task s)) {
    place = asked cells.retract_answer None task s.cells;
    out = owing (closing.retract_answer task s);
    left = left_by_place (asked cells.retract_answer None task s.cells) task s;
  }

  -- a task that its queue has turned away
  abbrev pub RetractsGo : Solo F T X → Type 0
  RetractsGo s = (task : Task) →
      (resumes saw.Nothing (step.Queue (queue_step.Append task) ∷ []) (record (calm s) { retracts = true }) ≡ taken_back task s)
      × IsLent (taken_back task s)
