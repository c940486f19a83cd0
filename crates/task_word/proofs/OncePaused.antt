-- A pending end that leaves no awaiter leaves a Runnable or nothing.
use Rattle.std.proofs.Common.{Bool, true, false, ◌≡◌, refl, ◌∙◌, ℕ, List, []}
use Rattle.std.specs.Prelude.{Option, Some, None}
use Rattle.atomic_table.specs.declared.shared.Seat.{Seat}
use Rattle.task_moves.specs.declared.schedule_info.ScheduleInfo.{ScheduleInfo}
use Rattle.task_word.specs.declared.rule.View.{View}
use Rattle.task_word.specs.Cell.{Slot}
use Rattle.task_word.specs.Steps.{leaves, HasQueued}
use Rattle.task_word.proofs.Views.{true_not}

pub left_queued : {F T W : Type 0} (o : Option ScheduleInfo) (b : Bool) (slots : List (ℕ × Slot F T W)) (seat : Seat (Slot F T W) View) → slots ≡ [] → b ≡ false
    → leaves o b slots seat.me → HasQueued o seat
left_queued (Some i) b slots seat e f l = (l.0, l.1 ∙ e)
left_queued None true slots seat e f l = true_not refl f
left_queued None false slots seat e f l = (l.0, l.1 ∙ e)
