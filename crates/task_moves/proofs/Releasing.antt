-- A waker that goes, and one that comes, of a task with one owner.
use Rattle.std.proofs.Common.{◌≡◌, ◌-◌, ◌<◌, Bool, true, false, refl, arith}
use Rattle.std.proofs.lemmas.Bool.Decides.{nat_tests}
use Rattle.std.specs.Prelude.{Option}
use Rattle.task_moves.specs.declared.moves.state.State.{State}
use Rattle.task_moves.specs.declared.moves.owed.Move.{Move}
use Rattle.task_moves.specs.declared.local_task.answers.FuturePlace.{FuturePlace}
use Rattle.task_moves.specs.AbstractTask as abstract
use Rattle.task_moves.specs.Moves.{release, release_by, is_over, is_last}
use Rattle.task_moves.specs.LocalTask.{IsSound, task_of, told, token, info_of}

module _ {F T A : Type 0} where
  sound_by : (last over : Bool) (s : State) (next : Option Move) (future : FuturePlace F) (output : Option T) (awaiter : Option A) →
      is_last s ≡ last → is_over s ≡ over → 0 < s.references - token s →
      IsSound F T A s next future output awaiter → IsSound F T A (release_by last over s).state next future output awaiter
  sound_by false over s next future o w e f p h = grind (arith, nat_tests)
  sound_by true true s next future o w e f p h = grind (arith, nat_tests)
  sound_by true false s next future o w e f p h = grind (arith, nat_tests)

  task_by : (last over : Bool) (s : State) (next : Option Move) (future : FuturePlace F) (output : Option T) (awaiter : Option A) →
      is_last s ≡ last → is_over s ≡ over → 0 < s.references - token s →
      IsSound F T A s next future output awaiter → task_of (release_by last over s).state output awaiter ≡ told (abstract.release (task_of s output awaiter))
  task_by false over s next future o w e f p h = grind (arith, nat_tests)
  task_by true true s next future o w e f p h = grind (arith, nat_tests)
  task_by true false s next future o w e f p h = grind (arith, nat_tests)

  info_by : (last over : Bool) (s : State) (next : Option Move) (future : FuturePlace F) (output : Option T) (awaiter : Option A) →
      is_last s ≡ last → is_over s ≡ over → 0 < s.references - token s →
      IsSound F T A s next future output awaiter → (release_by last over s).owed.schedule ≡ info_of (task_of s output awaiter) (abstract.release (task_of s output awaiter))
  info_by false over s next future o w e f p h = grind (arith, nat_tests)
  info_by true true s next future o w e f p h = grind (arith, nat_tests)
  info_by true false s next future o w e f p h = grind (arith, nat_tests)

  module _ {s : State} {next : Option Move} {future : FuturePlace F} {output : Option T} {awaiter : Option A} where
    pub sound : 0 < s.references - token s → IsSound F T A s next future output awaiter → IsSound F T A (release s).state next future output awaiter
    sound p h = sound_by _ _ s next future output awaiter refl refl p h

    pub task : 0 < s.references - token s → IsSound F T A s next future output awaiter → task_of (release s).state output awaiter ≡ told (abstract.release (task_of s output awaiter))
    task p h = task_by _ _ s next future output awaiter refl refl p h

    pub info : 0 < s.references - token s → IsSound F T A s next future output awaiter → (release s).owed.schedule ≡ info_of (task_of s output awaiter) (abstract.release (task_of s output awaiter))
    info p h = info_by _ _ s next future output awaiter refl refl p h
