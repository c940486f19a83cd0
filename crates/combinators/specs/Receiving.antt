-- What a receive with a time limit leaves and answers.
use Rattle.std.specs.Prelude.{◌≡◌, IsSome, Option, None, Result, Ok, Err}
use Rattle.async_task.specs.declared.poll.Poll.{Poll}
use Rattle.async_task.specs.declared.poll.Poll.TheVariants.{Ready, Pending}
use Rattle.timer.specs.Errors.{woken}
use Rattle.timer.specs.declared.errors.Stopped.{Stopped as Stop}
use Rattle.timer.specs.declared.sleep.Sleep.{Sleep}
use Rattle.waiting.specs.declared.channel.errors.RecvTimeoutError.{RecvTimeoutError}
use Rattle.waiting.specs.declared.channel.errors.RecvTimeoutError.TheVariants.{Elapsed, Stopped, Closed, NoMemory}

module _ {K R : Type 0} where
  -- the sleep is over, and ended so
  abbrev pub HasEnded : Sleep K R → Result (Unit {0}) Stop → Type 0
  HasEnded sleep how = (sleep.entry ≡ None) × (how ≡ woken sleep.is_stopped)

  -- pending, and it waits and sleeps; or ready, and it waits no more: with a message, or because its sleep or its channel is over, or
  -- for want of memory
  abbrev pub HasReceived : {W E T : Type 0} → Option W → Sleep K R → Option E → Poll (Result T RecvTimeoutError) → Type 0
  HasReceived waiting sleep ended Pending = IsSome waiting × IsSome sleep.entry
  HasReceived waiting sleep ended (Ready (Ok _)) = waiting ≡ None
  HasReceived waiting sleep ended (Ready (Err Elapsed)) = (waiting ≡ None) × HasEnded sleep (Ok tt)
  HasReceived waiting sleep ended (Ready (Err Stopped)) = (waiting ≡ None) × HasEnded sleep (Err (record {}))
  HasReceived waiting sleep ended (Ready (Err Closed)) = (waiting ≡ None) × IsSome ended
  HasReceived waiting sleep ended (Ready (Err NoMemory)) = waiting ≡ None
