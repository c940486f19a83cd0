-- Each call that may be made happens.
use Rattle.std.proofs.Common.{ℕ, length}
use Rattle.solo.specs.declared.names.SoloWaker.{SoloWaker}
use Rattle.solo.specs.declared.owed.Lent.{Lent}
use Rattle.solo.specs.declared.solo.Solo.{Solo}
use Rattle.plain_scheduler.specs.State.{Plain, Refusal}
use Rattle.plain_scheduler.specs.Calls.{Call, Cancel, Copy, Detach, DropExecutor, DropHandle, DropRun, DropTick, Ends, EndsWith, IsEmpty}
use Rattle.plain_scheduler.specs.Calls.{Leak, NewRun, NewTick, Pends, PollHandle, PollRun, PollTick, Release, Spawn, TryTick, Use, Wake}
use Rattle.solo_laws.specs.Making.{Allows, HasNumber, Happens, MayCall, NextIsFree, WakersAreKnown, Wish, left_in, queues_at_most}
use Rattle.solo_laws.specs.Owner.{Owner}
use Rattle.solo_laws.specs.Road.{HasLife}
use Rattle.solo_laws.proofs.Showing.Courses.{Known}
use Rattle.solo_laws.proofs.Happening.Choosing as choosing
use Rattle.solo_laws.proofs.Happening.Choosing.{wish}
use Rattle.solo_laws.proofs.Happening.Codes as codes
use Rattle.solo_laws.proofs.Happening.Ticks as ticks

module _ {F T X : Type 0} (its : ℕ → Lent) (future : F) (owner : Owner) (s : Solo F T X) (p : Plain T (SoloWaker X))
    (known : Known its owner s p) (free : NextIsFree its owner s p)
    (all : WakersAreKnown its owner s p) where
  by : (refusal : Refusal) (first second name : ℕ) (call : Call T (SoloWaker X)) → Allows its owner s p refusal name call
      → HasLife (queues_at_most (length s.table.entries) (left_in its owner s p p.inside) call) s.lines → HasNumber its owner s p call
      → Happens its owner s p (wish its future owner s p known.stands refusal first second name call)
  by r one two n (Spawn mark) may life number = choosing.spawn_happens its future owner s p known.stands r one two n mark free number may
      life
  by r one two n TryTick may life number = choosing.try_happens its future owner s p known.stands r one two n life
  by r one two n IsEmpty may life number = choosing.look_happens its future owner s p known.stands r one two n
  by r one two n (Wake f) may life number = choosing.wake_happens its future owner s p known.stands r one two n f may life
  by r one two n (Use f) may life number = choosing.use_happens its future owner s p known.stands r one two n f may life
  by r one two n (Copy f) may life number = choosing.copy_happens its future owner s p known.stands r one two n f may
  by r one two n (Release f) may life number = choosing.release_happens its future owner s p known.stands r one two n f may life
  by r one two n (PollHandle f w) may life number =
      choosing.poll_happens its future owner s p known.stands r one two n f w may.0 may.1 may.2 life
  by r one two n (Cancel f) may life number = choosing.cancel_happens its future owner s p known.stands r one two n f may life
  by r one two n (Detach f) may life number = choosing.detach_happens its future owner s p known.stands r one two n f may life
  by r one two n (DropHandle f) may life number = choosing.drop_happens its future owner s p known.stands r one two n f may life
  by r one two n NewTick may life number = ticks.new_tick_happens its future owner s p known.stands r one two n may
  by r one two n (PollTick t w) may life number =
      ticks.poll_tick_happens its future owner s p known.stands r one two n t w may.0 may.1 life
  by r one two n (DropTick t) may life number = ticks.drop_tick_happens its future owner s p known.stands r one two n t may life
  by r one two n NewRun may life number = codes.new_run_happens its future owner s p known r one two n number
  by r one two n (PollRun k w) may life number = codes.poll_run_happens its future owner s p known r one two n k w may.0
  by r one two n (DropRun k) may life number = codes.drop_run_happens its future owner s p known r one two n k may
  by r one two n Leak may life number = choosing.leak_happens its future owner s p known.stands r one two n may life
  by r one two n DropExecutor may life number = absurd may
  by r one two n Pends may life number = codes.pends_happen its future owner s p known r one two n all may life
  by r one two n (EndsWith v) may life number = codes.gives_happen its future owner s p known r one two n v may
  by r one two n Ends may life number = codes.ends_happen its future owner s p known r one two n all may life

  pub happens : (x : Wish T (SoloWaker X)) → MayCall its owner s p x → Happens its owner s p x
  happens x may = by x.refusal x.first x.second x.name x.call may.allowed may.life may.number
