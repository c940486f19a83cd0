-- What an error is to a program whose errors are the library's.
use Rattle.std.specs.declared.io.ErrorKind.{ErrorKind}
use Rattle.std.specs.declared.io.ErrorKind.TheVariants as kind
use Rattle.async_executor.specs.declared.errors.SpawnError.{SpawnError}
use Rattle.async_executor.specs.declared.errors.SpawnError.TheVariants as spawn
use Rattle.async_executor.specs.declared.errors.RunError.{RunError}
use Rattle.async_executor.specs.declared.errors.RunError.TheVariants as run

abbrev pub kind_of_spawn : {F : Type 0} → SpawnError F → ErrorKind
kind_of_spawn (spawn.Full _) = kind.WouldBlock
kind_of_spawn (spawn.NoMemory _) = kind.OutOfMemory

abbrev pub kind_of_run : RunError → ErrorKind
kind_of_run run.NoMemory = kind.OutOfMemory
kind_of_run run.Finished = kind.UnexpectedEof
