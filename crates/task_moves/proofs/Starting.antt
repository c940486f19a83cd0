-- A task with one owner whose turn has come, or is let go.
use Rattle.std.proofs.Common.{◌≡◌, arith}
use Rattle.std.proofs.lemmas.Bool.Decides.{nat_tests}
use Rattle.std.specs.Prelude.{Option, Some}
use Rattle.task_moves.specs.declared.moves.state.State.{State}
use Rattle.task_moves.specs.declared.moves.owed.Move.{Move}
use Rattle.task_moves.specs.declared.moves.owed.Moved.{Moved}
use Rattle.task_moves.specs.declared.local_task.answers.FuturePlace.{FuturePlace}
use Rattle.task_moves.specs.declared.local_task.answers.FuturePlace.TheVariants.{Dropping}
use Rattle.task_moves.specs.AbstractTask as abstract
use Rattle.task_moves.specs.Moves as moves
use Rattle.task_moves.specs.Moves.{is_over, is_going, is_last, most_references}
use Rattle.task_moves.specs.LocalTask as local
use Rattle.task_moves.specs.LocalTask.{IsSound, task_of, told, token, info_of, references_of, is_home}

module _ {F T A : Type 0} {s : State} {next : Option Move} {future : FuturePlace F} {output : Option T} {awaiter : Option A} where
  -- the future of a closed task is to be dropped
  pub sound_dropping : (m : Moved) (k : Move) → m ≡ moves.take_up s → m.owed.next ≡ Some k → local.phase_of s ≡ abstract.Phase.Queued →
      IsSound F T A s next future output awaiter → IsSound F T A m.state m.owed.next Dropping output awaiter
  sound_dropping m k e f q h = grind (arith, nat_tests)
