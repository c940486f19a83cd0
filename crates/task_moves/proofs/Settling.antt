-- The end of a poll of a task with one owner.
use Rattle.std.proofs.Common.{◌≡◌, true, false, arith}
use Rattle.std.proofs.lemmas.Bool.Decides.{nat_tests}
use Rattle.std.specs.Prelude.{Option, Some, None}
use Rattle.task_moves.specs.declared.moves.state.State.{State}
use Rattle.task_moves.specs.declared.moves.owed.Move.{Move}
use Rattle.task_moves.specs.declared.moves.owed.Moved.{Moved}
use Rattle.task_moves.specs.declared.moves.owed.FutureDebt.{FutureDebt}
use Rattle.task_moves.specs.declared.local_task.answers.FuturePlace.{FuturePlace}
use Rattle.task_moves.specs.declared.local_task.answers.FuturePlace.TheVariants.{Home, Lent, Dropping, Gone}
use Rattle.task_moves.specs.AbstractTask as abstract
use Rattle.task_moves.specs.Moves as moves
use Rattle.task_moves.specs.Moves.{is_over, is_going, is_last, most_references}
use Rattle.task_moves.specs.Paying.{notified, uncalled}
use Rattle.task_moves.specs.LocalTask as local
use Rattle.task_moves.specs.LocalTask.{IsSound, task_of, told, token, info_of, references_of, is_home}

module _ {F T A : Type 0} {s : State} {next : Option Move} {future : FuturePlace F} {output : Option T} {awaiter : Option A} where
  -- nobody is left to whom the output could be given
  pub sound_unwanted : (m : Moved) (n : State) → m ≡ moves.end_ready s → m.owed.drop_output ≡ true → n ≡ (moves.give_up (notified m.owed.awaiter m.state)).state →
      future ≡ Lent → IsSound F T A s next future output awaiter →
      IsSound F T A n next Gone output (uncalled m.owed.awaiter awaiter)
  sound_unwanted m n e u i l h = grind (arith, nat_tests)

  -- the output is kept
  pub sound_wanted : (m : Moved) (n : State) (v : T) → m ≡ moves.end_ready s → m.owed.drop_output ≡ false → n ≡ (moves.give_up (notified m.owed.awaiter m.state)).state →
      future ≡ Lent → IsSound F T A s next future output awaiter →
      IsSound F T A n next Gone (Some v) (uncalled m.owed.awaiter awaiter)
  sound_wanted m n v e u i l h = grind (arith, nat_tests)

  -- the future is to be dropped
  pub sound_dropping : (m : Moved) (d : FutureDebt) → m ≡ moves.end_pending s → m.owed.future ≡ Some d → future ≡ Lent →
      IsSound F T A s next future output awaiter → IsSound F T A m.state m.owed.next Dropping output awaiter
  sound_dropping m d e f l h = grind (arith, nat_tests)

  -- the future is back
  pub sound_home : (m : Moved) (f : F) → m ≡ moves.end_pending s → m.owed.future ≡ None → future ≡ Lent →
      IsSound F T A s next future output awaiter → IsSound F T A m.state m.owed.next (Home f) output awaiter
  sound_home m f e i l h = grind (arith, nat_tests)

  pub task_dropping : (m : Moved) (d : FutureDebt) (f : F) → m ≡ moves.end_pending s → m.owed.future ≡ Some d → future ≡ Lent →
      IsSound F T A s next future output awaiter →
      let t : abstract.AbstractTask T A = task_of s output awaiter in
      task_of m.state output awaiter ≡ told (local.settle_pending_by (abstract.pending_end t) f t).task
  task_dropping m d f e i l h = grind (arith, nat_tests)

  pub place_dropping : (m : Moved) (d : FutureDebt) (f : F) → m ≡ moves.end_pending s → m.owed.future ≡ Some d → future ≡ Lent →
      IsSound F T A s next future output awaiter →
      let t : abstract.AbstractTask T A = task_of s output awaiter in
      Dropping ≡ (local.settle_pending_by (abstract.pending_end t) f t).future
  place_dropping m d f e i l h = grind (arith, nat_tests)
