-- What a step on a task's word found that changed nothing.
use Rattle.std.specs.Prelude.{◌≡◌, [], ◌∷◌, Bool, true, false, is_some}
use Rattle.task_moves.specs.declared.moves.state.State.{State}
use Rattle.task_moves.specs.declared.moves.owed.Owed.{Owed}
use Rattle.task_word.specs.declared.rule.View.{View}
use Rattle.task_word.specs.declared.tokens.Trace.{Trace}
use Rattle.task_moves.specs.Moves as moves
use Rattle.task_word.specs.Steps as steps
use Rattle.task_word.specs.Word.{pack}

-- the step of this trace found this state
abbrev pub Found : State → Trace → Type 0
Found st trace = (v : View) × (trace.claim.badge.views ≡ v ∷ []) × (rests : Bool) × (v.found ≡ pack st rests)

-- the step of this trace was a copy of a waker that was refused
abbrev pub FoundTooMany : Trace → Type 0
FoundTooMany trace = (v : View) × (trace.claim.badge.views ≡ v ∷ []) × (owed : Owed) × steps.Makes steps.copy v owed
    × (is_some owed.answer ≡ true)

-- the step of this trace was a wake after which no Runnable has to be scheduled
abbrev pub FoundAwake : Trace → Type 0
FoundAwake trace = (v : View) × (trace.claim.badge.views ≡ v ∷ []) × (owed : Owed) × steps.Makes moves.wake_by_reference v owed
    × (is_some owed.schedule ≡ false)
