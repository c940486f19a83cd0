-- What an error is to a program whose errors are the library's.
use Rattle.std.specs.declared.io.ErrorKind.{ErrorKind}
use Rattle.std.specs.declared.io.ErrorKind.TheVariants.{BrokenPipe, OutOfMemory, WouldBlock}
use Rattle.offload.specs.declared.errors.TryRunError.{TryRunError}
use Rattle.offload.specs.declared.errors.TryRunError.TheVariants as tried
use Rattle.offload.specs.declared.errors.RunError.{RunError}
use Rattle.offload.specs.declared.errors.RunError.TheVariants as run

module _ {J : Type 0} where
  abbrev pub kind_of_try : TryRunError J → ErrorKind
  kind_of_try (tried.Full _) = WouldBlock
  kind_of_try (tried.Closed _) = BrokenPipe
  kind_of_try (tried.NoMemory _) = OutOfMemory

  abbrev pub kind_of_run : RunError J → ErrorKind
  kind_of_run (run.Closed _) = BrokenPipe
  kind_of_run (run.NoMemory _) = OutOfMemory
  kind_of_run run.Canceled = BrokenPipe
