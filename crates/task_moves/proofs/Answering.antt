-- A poll of the handle of a task with one owner.
use Rattle.std.proofs.Common.{◌≡◌, ◌≢◌, true, false, arith}
use Rattle.std.proofs.lemmas.Bool.Decides.{nat_tests}
use Rattle.std.specs.Prelude.{Option, Some, None}
use Rattle.task_moves.specs.declared.moves.state.State.{State}
use Rattle.task_moves.specs.declared.moves.owed.Move.{Move}
use Rattle.task_moves.specs.declared.moves.owed.Moved.{Moved}
use Rattle.task_moves.specs.declared.moves.owed.Answer.{Answer}
use Rattle.task_moves.specs.declared.moves.owed.Answer.TheVariants.{Output}
use Rattle.task_moves.specs.declared.local_task.answers.Polled.TheVariants.{Closed as ClosedOf, Pending as PendingOf}
use Rattle.task_moves.specs.declared.local_task.answers.FuturePlace.{FuturePlace}
use Rattle.task_moves.specs.AbstractTask as abstract
use Rattle.task_moves.specs.Moves as moves
use Rattle.task_moves.specs.Moves.{is_over, is_going, is_last, most_references}
use Rattle.task_moves.specs.Paying.{registered}
use Rattle.task_moves.specs.LocalTask as local
use Rattle.task_moves.specs.LocalTask.{IsSound, task_of, told, token, info_of, references_of, is_home}

module _ {F T A : Type 0} {s : State} {next : Option Move} {future : FuturePlace F} {output : Option T} {awaiter : Option A} where
  -- there is no answer yet
  pub sound_waiting : (m : Moved) (n : State) (waker : A) → m ≡ moves.poll s → m.owed.answer ≡ None → n ≡ registered m.state →
      IsSound F T A s next future output awaiter → IsSound F T A n next future output (Some waker)
  sound_waiting m n w e f i h = grind (arith, nat_tests)

  pub task_waiting : (m : Moved) (n : State) (waker : A) → m ≡ moves.poll s → m.owed.answer ≡ None → n ≡ registered m.state →
      IsSound F T A s next future output awaiter → task_of n output (Some waker) ≡ told (abstract.poll waker (task_of s output awaiter)).task
  task_waiting m n w e f i h = grind (arith, nat_tests)

  pub answer_waiting : (m : Moved) (waker : A) → m ≡ moves.poll s → m.owed.answer ≡ None →
      IsSound F T A s next future output awaiter → PendingOf awaiter ≡ local.poll_answer waker (task_of s output awaiter)
  answer_waiting m w e f h = grind (arith, nat_tests)

closed_is : (s : State) (m : Moved) (a : Answer) → m ≡ moves.poll s → m.owed.answer ≡ Some a → a ≢ Output → s.closed ≡ true
closed_is s m a e f b = grind (arith, nat_tests)

resting_is : (s : State) (m : Moved) (a : Answer) → m ≡ moves.poll s → m.owed.answer ≡ Some a → a ≢ Output → is_going s ≡ false
resting_is s m a e f b = grind (arith, nat_tests)

state_is : (s : State) (m : Moved) (a : Answer) → m ≡ moves.poll s → m.owed.answer ≡ Some a → a ≢ Output → m.state ≡ s
state_is s m a e f b = grind (arith, nat_tests)

module _ {F T A : Type 0} {s : State} {next : Option Move} {future : FuturePlace F} {output : Option T} {awaiter : Option A} where
  sound_by : s.closed ≡ true → is_going s ≡ false → s.handle ≡ true →
      IsSound F T A s next future output awaiter → IsSound F T A (record s { awaiter = false }) next future output awaiter
  sound_by x g p h = grind (arith, nat_tests)

  task_by : (waker : A) → s.closed ≡ true → is_going s ≡ false → s.handle ≡ true → IsSound F T A s next future output awaiter →
      task_of (record s { awaiter = false }) output awaiter ≡ told (abstract.poll waker (task_of s output awaiter)).task
  task_by w x g p h = grind (arith, nat_tests)

  answer_by : (waker : A) → s.closed ≡ true → is_going s ≡ false → IsSound F T A s next future output awaiter →
      ClosedOf waker ≡ local.poll_answer waker (task_of s output awaiter)
  answer_by w x g h = grind (arith, nat_tests)

  -- there will be no output
  pub sound_closed : (m : Moved) (n : State) (a : Answer) → m ≡ moves.poll s → m.owed.answer ≡ Some a → a ≢ Output → n ≡ record m.state { awaiter = false } → s.handle ≡ true →
      IsSound F T A s next future output awaiter → IsSound F T A n next future output awaiter
  sound_closed m n a e f b i p h = rw (i, state_is s m a e f b) (sound_by (closed_is s m a e f b) (resting_is s m a e f b) p h)

  pub task_closed : (m : Moved) (n : State) (a : Answer) (waker : A) → m ≡ moves.poll s → m.owed.answer ≡ Some a → a ≢ Output → n ≡ record m.state { awaiter = false } → s.handle ≡ true →
      IsSound F T A s next future output awaiter → task_of n output awaiter ≡ told (abstract.poll waker (task_of s output awaiter)).task
  task_closed m n a w e f b i p h = rw (i, state_is s m a e f b) (task_by w (closed_is s m a e f b) (resting_is s m a e f b) p h)

  pub answer_closed : (m : Moved) (a : Answer) (waker : A) → m ≡ moves.poll s → m.owed.answer ≡ Some a → a ≢ Output →
      IsSound F T A s next future output awaiter → ClosedOf waker ≡ local.poll_answer waker (task_of s output awaiter)
  answer_closed m a w e f b h = answer_by w (closed_is s m a e f b) (resting_is s m a e f b) h
