-- A cancel of a task with one owner.
use Rattle.std.proofs.Common.{◌≡◌, arith}
use Rattle.std.proofs.lemmas.Bool.Decides.{nat_tests}
use Rattle.std.specs.Prelude.{Option}
use Rattle.task_moves.specs.declared.moves.state.State.{State}
use Rattle.task_moves.specs.declared.moves.owed.Move.{Move}
use Rattle.task_moves.specs.declared.local_task.answers.FuturePlace.{FuturePlace}
use Rattle.task_moves.specs.AbstractTask as abstract
use Rattle.task_moves.specs.Moves as moves
use Rattle.task_moves.specs.Moves.{is_over, is_going, is_last, most_references}
use Rattle.task_moves.specs.Paying.{notified, called, uncalled}
use Rattle.task_moves.specs.LocalTask.{IsSound, task_of, told, info_of}

module _ {F T A : Type 0} where
  module _ {s : State} {next : Option Move} {future : FuturePlace F} {output : Option T} {awaiter : Option A} where
    pub sound : IsSound F T A s next future output awaiter →
        let m = moves.cancel s in
        IsSound F T A (notified m.owed.awaiter m.state) next future output (uncalled m.owed.awaiter awaiter)
    sound h = grind (arith, nat_tests)

    pub task : IsSound F T A s next future output awaiter →
        let m = moves.cancel s in
        task_of (notified m.owed.awaiter m.state) output (uncalled m.owed.awaiter awaiter) ≡ told (abstract.cancel (task_of s output awaiter)).task
    task h = grind (arith, nat_tests)

    pub info : IsSound F T A s next future output awaiter →
        (moves.cancel s).owed.schedule ≡ info_of (task_of s output awaiter) (abstract.cancel (task_of s output awaiter)).task
    info h = grind (arith, nat_tests)

    pub called_is : IsSound F T A s next future output awaiter →
        called (moves.cancel s).owed.awaiter awaiter ≡ (abstract.cancel (task_of s output awaiter)).called
    called_is h = grind (arith, nat_tests)
