-- The future that comes back of a refusal, and what an error is to a program whose errors are the library's.
use Rattle.std.specs.declared.io.ErrorKind.{ErrorKind}
use Rattle.std.specs.declared.io.ErrorKind.TheVariants.{OutOfMemory, BrokenPipe, UnexpectedEof}
use Rattle.kit_futures.specs.declared.errors.EnterError.{EnterError}
use Rattle.kit_futures.specs.declared.errors.EnterError.TheVariants.{NoMemory, Closed}
use Rattle.kit_futures.specs.declared.errors.AwaitError.{AwaitError}
use Rattle.kit_futures.specs.declared.errors.AwaitError.TheVariants as awaits

module _ {F : Type 0} where
  -- the future that comes back
  abbrev pub refused : EnterError F → F
  refused (NoMemory future) = future
  refused (Closed future) = future

  abbrev pub kind_of_enter : EnterError F → ErrorKind
  kind_of_enter (NoMemory _) = OutOfMemory
  kind_of_enter (Closed _) = BrokenPipe

abbrev pub kind_of_await : AwaitError → ErrorKind
kind_of_await (awaits.Closed _) = BrokenPipe
kind_of_await awaits.Finished = UnexpectedEof
