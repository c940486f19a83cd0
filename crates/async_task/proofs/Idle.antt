-- Only the end of a poll passes a schedule value that its task was woken while it was polled.
use Rattle.std.proofs.Common.{◌≡◌, Bool, true, false, refl, sym, ap, ◌∙◌}
use Rattle.std.specs.Prelude.{Option, Some, None, IfSome}
use Rattle.task_moves.specs.declared.schedule_info.ScheduleInfo.{ScheduleInfo}
use Rattle.task_moves.specs.declared.moves.state.State.{State}
use Rattle.task_moves.specs.Moves as moves
use Rattle.task_moves.specs.Moves.{release_by, give_up_by}
use Rattle.async_task.specs.Due.{WasIdle}

abbrev pub woken_of : Option ScheduleInfo → Bool
woken_of (Some info) = info.woken_while_running
woken_of None = false

-- a schedule value that is passed this isn't passed that
abbrev pub IsIdle : Option ScheduleInfo → Type 0
IsIdle o = woken_of o ≡ false

releasing : (l o : Bool) (s : State) → IsIdle (release_by l o s).owed.schedule
releasing false o s = refl
releasing true true s = refl
releasing true false s = refl

pub idle_release : (s : State) → IsIdle (moves.release s).owed.schedule
idle_release s = releasing _ _ s

giving_up : (l : Bool) (s : State) → IsIdle (give_up_by l s).owed.schedule
giving_up false s = refl
giving_up true s = refl

pub idle_give_up : (s : State) → IsIdle (moves.give_up s).owed.schedule
idle_give_up s = giving_up _ s

-- what is passed is what the step says
pub if_rest : (owed r : Option ScheduleInfo) → IfSome r (λ info. owed ≡ Some info) → IsIdle owed → IfSome r WasIdle
if_rest owed (Some info) e z = ap woken_of (sym e) ∙ z
if_rest owed None e z = tt
