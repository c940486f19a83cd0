-- What a poll that reads or writes answers.
use Rattle.std.specs.Prelude.{◌≡◌, ◌⊎◌, Result, Ok, Err}
use Rattle.std.specs.IoError.{error_kind}
use Rattle.std.specs.declared.io.Error.{Error}
use Rattle.std.specs.declared.io.ErrorKind.TheVariants.{BrokenPipe}
use Rattle.async_task.specs.declared.poll.Poll.{Poll}
use Rattle.async_task.specs.declared.poll.Poll.TheVariants.{Ready, Pending}
use Rattle.reactor.specs.Attempts.{WouldHaveBlocked}

module _ {T : Type 0} where
  -- the reactor was closed
  abbrev pub IsOfClosed : Result T Error → Type 0
  IsOfClosed (Ok _) = ⊥
  IsOfClosed (Err error) = error_kind error ≡ BrokenPipe

  -- what the call gave, unless it would have blocked; or that the reactor was closed
  abbrev pub HasPolled : (Result T Error → Type 0) → Poll (Result T Error) → Type 0
  HasPolled gives (Ready done) = (gives done × ¬ (WouldHaveBlocked done)) ⊎ IsOfClosed done
  HasPolled gives Pending = Unit {0}
