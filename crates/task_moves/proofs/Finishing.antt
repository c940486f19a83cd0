-- The end of what closes a task with one owner.
use Rattle.std.proofs.Common.{◌≡◌, ◌<◌, true, false, arith}
use Rattle.std.proofs.lemmas.Bool.Decides.{nat_tests}
use Rattle.std.specs.Prelude.{Option, Some, None}
use Rattle.task_moves.specs.declared.moves.state.State.{State}
use Rattle.task_moves.specs.declared.moves.owed.Move.{Move}
use Rattle.task_moves.specs.declared.moves.owed.Move.TheVariants.{GiveUp}
use Rattle.task_moves.specs.declared.moves.owed.Moved.{Moved}
use Rattle.task_moves.specs.declared.local_task.answers.FuturePlace.{FuturePlace}
use Rattle.task_moves.specs.declared.local_task.answers.FuturePlace.TheVariants.{Dropping, Gone}
use Rattle.task_moves.specs.Moves as moves
use Rattle.task_moves.specs.Moves.{is_over, is_going, is_last, most_references}
use Rattle.task_moves.specs.Paying.{notified, called, uncalled}
use Rattle.task_moves.specs.LocalTask as local
use Rattle.task_moves.specs.LocalTask.{IsSound, task_of, told, token, info_of, references_of, is_home}

module _ {F T A : Type 0} {s : State} {next : Option Move} {future : FuturePlace F} {output : Option T} {awaiter : Option A} where
  -- the move that follows is the last but one of a run or a closing call
  pub next_is : (m : Moved) (k : Move) → next ≡ Some k → m ≡ moves.after k s → future ≡ Dropping →
      IsSound F T A s next future output awaiter → m.owed.next ≡ Some GiveUp
  next_is m k e f l h = grind (arith, nat_tests)

  pub held : (m : Moved) (k : Move) → next ≡ Some k → m ≡ moves.after k s → future ≡ Dropping →
      IsSound F T A s next future output awaiter → 0 < m.state.references
  held m k e f l h = grind (arith, nat_tests)

  state_is : (m : Moved) (k : Move) → next ≡ Some k → m ≡ moves.after k s → future ≡ Dropping →
      IsSound F T A s next future output awaiter → m.state ≡ record s { scheduled = false; running = false }
  state_is m k e f l h = grind (arith, nat_tests)

  owed_is : (m : Moved) (k : Move) → next ≡ Some k → m ≡ moves.after k s → future ≡ Dropping →
      IsSound F T A s next future output awaiter → m.owed.awaiter ≡ moves.notify_if s.awaiter
  owed_is m k e f l h = grind (arith, nat_tests)

  going : (k : Move) → next ≡ Some k → future ≡ Dropping → IsSound F T A s next future output awaiter → is_going s ≡ true
  going k e l h = grind (arith, nat_tests)

  sound_by : (n : State) → n ≡ (moves.give_up (notified (moves.notify_if s.awaiter) (record s { scheduled = false; running = false }))).state → is_going s ≡ true →
      future ≡ Dropping → IsSound F T A s next future output awaiter → IsSound F T A n next Gone output (uncalled (moves.notify_if s.awaiter) awaiter)
  sound_by n i g l h = grind (arith, nat_tests)

  pub sound : (m : Moved) (n : State) (k : Move) → next ≡ Some k → m ≡ moves.after k s → n ≡ (moves.give_up (notified m.owed.awaiter m.state)).state →
      future ≡ Dropping → IsSound F T A s next future output awaiter → IsSound F T A n next Gone output (uncalled m.owed.awaiter awaiter)
  sound m n k e f i l h = rw (owed_is m k e f l h) (sound_by n (rw (owed_is m k e f l h, state_is m k e f l h) at i) (going k e l h) l h)

  task_by : (n : State) → n ≡ (moves.give_up (notified (moves.notify_if s.awaiter) (record s { scheduled = false; running = false }))).state → is_going s ≡ true →
      future ≡ Dropping → IsSound F T A s next future output awaiter →
      task_of n output (uncalled (moves.notify_if s.awaiter) awaiter) ≡ (local.finish (task_of s output awaiter)).task
  task_by n i g l h = grind (arith, nat_tests)

  pub task : (m : Moved) (n : State) (k : Move) → next ≡ Some k → m ≡ moves.after k s → n ≡ (moves.give_up (notified m.owed.awaiter m.state)).state →
      future ≡ Dropping → IsSound F T A s next future output awaiter →
      task_of n output (uncalled m.owed.awaiter awaiter) ≡ (local.finish (task_of s output awaiter)).task
  task m n k e f i l h = rw (owed_is m k e f l h) (task_by n (rw (owed_is m k e f l h, state_is m k e f l h) at i) (going k e l h) l h)

  pub answer : (m : Moved) (k : Move) → next ≡ Some k → m ≡ moves.after k s →
      future ≡ Dropping → IsSound F T A s next future output awaiter →
      local.finish_answer_by (called m.owed.awaiter awaiter) None ≡ local.finish_answer (task_of s output awaiter)
  answer m k e f l h = grind (arith, nat_tests)
