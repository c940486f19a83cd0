-- A release that isn't the last leaves nothing and owes nothing; a take-up of an open task owes a poll.
use Rattle.std.proofs.Common.{Bool, true, false, ◌≡◌, refl, subst, sym, ap, ◌∙◌, ℕ}
use Rattle.task_moves.specs.Moves as moves
use Rattle.task_moves.specs.Moves.{is_last, is_over}
use Rattle.task_moves.specs.declared.moves.state.State.{State}
use Rattle.task_moves.specs.declared.moves.owed.Moved.{Moved}
use Rattle.task_word.specs.declared.rule.Hold.TheVariants.{Nothing}
use Rattle.task_moves.specs.declared.moves.owed.Owed.{Owed}
use Rattle.task_word.specs.Once.{begins}
use Rattle.task_word.specs.Steps.{Known, Is, Makes, released}
use Rattle.task_word.proofs.Views.{true_not}

leaves_by : {F T W : Type 0} (b : Bool) (st : State) (m m' : Known F T W) → b ≡ false → released (moves.release_by b (is_over st) st) m m' → Is Nothing m.1 m'
leaves_by false st m m' e r = r
leaves_by true st m m' e r = true_not refl e

pub leaves_nothing : {F T W : Type 0} (st : State) (mv : Moved) (m m' : Known F T W) → mv ≡ moves.release st → is_last st ≡ false
    → released mv m m' → Is Nothing m.1 m'
leaves_nothing st mv m m' its e r = leaves_by (is_last st) st m m' e (subst (λ (z : Moved). released z m m') its r)

owes_by : (b over : Bool) (st : State) → b ≡ false → (moves.release_by b over st).owed ≡ moves.nothing
owes_by false over st e = refl
owes_by true over st e = true_not refl e

pub owes_nothing : (st : State) (mv : Moved) → mv ≡ moves.release st → is_last st ≡ false → mv.owed ≡ moves.nothing
owes_nothing st mv its e = ap (λ (z : Moved). z.owed) its ∙ owes_by (is_last st) (is_over st) st e

begins_by : (b : Bool) (st : State) → b ≡ false → (moves.take_up_by b st).owed ≡ begins
begins_by false st e = refl
begins_by true st e = true_not refl e

pub owes_a_poll : (st : State) (mv : Moved) → mv ≡ moves.take_up st → st.closed ≡ false → mv.owed ≡ begins
owes_a_poll st mv its e = ap (λ (z : Moved). z.owed) its ∙ begins_by st.closed st e
