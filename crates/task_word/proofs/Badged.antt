-- What a badge's seat has.
use Rattle.std.proofs.Common.{◌≡◌, suc, List, [], ◌∷◌, length, Bool, true, refl, sym, ap, ◌∙◌, subst, arith}
use Rattle.std.specs.Prelude.{Option, Some, None}
use Rattle.atomic_table.specs.declared.shared.Seat.{Seat}
use Rattle.task_moves.specs.declared.schedule_info.ScheduleInfo.{ScheduleInfo}
use Rattle.task_word.specs.declared.rule.View.{View}
use Rattle.task_word.specs.declared.rule.Hold.{Hold}
use Rattle.task_word.specs.declared.rule.Hold.TheVariants.{Nothing, Emptying}
use Rattle.task_word.specs.declared.rule.Content.TheVariants.{Awaiter}
use Rattle.task_word.specs.Cell.{Slot}
use Rattle.task_word.specs.Badges.{holds}
use Rattle.task_word.specs.Steps.{Is, HasLeft}

pub one_view : (hold : Hold) (vs : List View) → holds vs ≡ hold ∷ [] → (v : View) × (vs ≡ v ∷ [])
one_view hold [] e = absurd (let z : 0 ≡ 1 = ap length e in omega arith)
one_view hold (v ∷ []) e = (v, refl)
one_view hold (v ∷ w ∷ vs) e = absurd (let z : suc (suc (length (holds vs))) ≡ 1 = ap length e in omega arith)

first_hold : List Hold → Hold
first_hold [] = Nothing
first_hold (h ∷ hs) = h

pub held_by : (hold : Hold) (vs : List View) (v : View) → holds vs ≡ hold ∷ [] → vs ≡ v ∷ [] → v.hold ≡ hold
unfolding first_hold
held_by hold vs v e is = ap first_hold (sym (ap holds is) ∙ e)

-- an awaiter is left, and no Runnable has to be scheduled
pub left_awaiter : {F T W : Type 0} (o : Option ScheduleInfo) (b : Bool) (seat : Seat (Slot F T W) View) → o ≡ None → b ≡ true
    → HasLeft o b seat → (w : W) × Is Emptying ((1, Some (Awaiter w)) ∷ []) seat.me
left_awaiter o b seat eo eb h = subst (λ (z : Bool). HasLeft None z seat) eb (subst (λ (z : Option ScheduleInfo). HasLeft z b seat) eo h)
