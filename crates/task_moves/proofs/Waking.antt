-- A wake of a task with one owner is the abstract wake.
use Rattle.std.proofs.Common.{◌≡◌, ℕ, Bool, true, false, refl, arith}
use Rattle.std.proofs.lemmas.Bool.Decides.{nat_tests}
use Rattle.std.specs.Prelude.{Option, ◌||◌}
use Rattle.task_moves.specs.declared.moves.state.State.{State}
use Rattle.task_moves.specs.declared.moves.owed.Move.{Move}
use Rattle.task_moves.specs.declared.local_task.answers.FuturePlace.{FuturePlace}
use Rattle.task_moves.specs.AbstractTask as abstract
use Rattle.task_moves.specs.Moves.{wake_by_reference, wake_by_reference_by, is_over}
use Rattle.task_moves.specs.LocalTask.{IsSound, task_of, told}

pub task_of-wake : {T A : Type 0} (c r s x h a g n : Bool) (k : ℕ) (output : Option T) (awaiter : Option A) →
    let st : State = record { scheduled = s; running = r; completed = c; closed = x; handle = h; awaiter = a; registering = g; notifying = n; references = k } in
    task_of (wake_by_reference st).state output awaiter ≡ told (abstract.wake (task_of st output awaiter))
task_of-wake true r s true h a g n k o w = refl
task_of-wake true r s false h a g n k o w = refl
task_of-wake false r s true h a g n k o w = refl
task_of-wake false true true false h a g n k o w = refl
task_of-wake false false true false h a g n k o w = refl
task_of-wake false true false false h a g n k o w = refl
task_of-wake false false false false h a g n k o w = grind arith

sound-wake_by : {F T A : Type 0} (over running : Bool) (s : State) (next : Option Move) (future : FuturePlace F) (output : Option T) (awaiter : Option A) →
    (is_over s || s.scheduled) ≡ over → s.running ≡ running →
    IsSound F T A s next future output awaiter → IsSound F T A (wake_by_reference_by over running s).state next future output awaiter
sound-wake_by true running s next future o w e f h = h
sound-wake_by false true s next future o w e f h = grind (arith, nat_tests)
sound-wake_by false false s next future o w e f h = grind (arith, nat_tests)

pub sound-wake : {F T A : Type 0} {s : State} {next : Option Move} {future : FuturePlace F} {output : Option T} {awaiter : Option A} →
    IsSound F T A s next future output awaiter → IsSound F T A (wake_by_reference s).state next future output awaiter
sound-wake h = sound-wake_by _ _ _ _ _ _ _ refl refl h
