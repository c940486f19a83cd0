-- A detach of a task with one owner.
use Rattle.std.proofs.Common.{◌≡◌, arith}
use Rattle.std.proofs.lemmas.Bool.Decides.{nat_tests}
use Rattle.std.specs.Prelude.{Option, Some, None}
use Rattle.task_moves.specs.declared.moves.state.State.{State}
use Rattle.task_moves.specs.declared.moves.owed.Move.{Move}
use Rattle.task_moves.specs.declared.moves.owed.Moved.{Moved}
use Rattle.task_moves.specs.declared.local_task.answers.FuturePlace.{FuturePlace}
use Rattle.task_moves.specs.AbstractTask as abstract
use Rattle.task_moves.specs.Moves as moves
use Rattle.task_moves.specs.Moves.{is_over, is_going, is_last, most_references}
use Rattle.task_moves.specs.LocalTask.{IsSound, task_of, told}

module _ {F T A : Type 0} {s : State} {next : Option Move} {future : FuturePlace F} {output : Option T} {awaiter : Option A} where
  -- an output is there, and goes first
  pub sound_output : (m n : Moved) (k : Move) → m ≡ moves.detach s → m.owed.next ≡ Some k → n ≡ moves.detach m.state →
      IsSound F T A s next future output awaiter → IsSound F T A n.state next future None awaiter
  sound_output m n k e f i h = grind (arith, nat_tests)

  pub task_output : (m n : Moved) (k : Move) → m ≡ moves.detach s → m.owed.next ≡ Some k → n ≡ moves.detach m.state →
      IsSound F T A s next future output awaiter → task_of n.state None awaiter ≡ told (abstract.detach (task_of s output awaiter)).task
  task_output m n k e f i h = grind (arith, nat_tests)

  -- none is
  pub sound : (m : Moved) → m ≡ moves.detach s → m.owed.next ≡ None →
      IsSound F T A s next future output awaiter → IsSound F T A m.state next future output awaiter
  sound m e f h = grind (arith, nat_tests)

  pub task : (m : Moved) → m ≡ moves.detach s → m.owed.next ≡ None →
      IsSound F T A s next future output awaiter → task_of m.state output awaiter ≡ told (abstract.detach (task_of s output awaiter)).task
  task m e f h = grind (arith, nat_tests)
