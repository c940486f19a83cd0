-- What an error is to a program whose errors are the library's.
use Rattle.std.specs.declared.io.ErrorKind.{ErrorKind}
use Rattle.std.specs.declared.io.ErrorKind.TheVariants as kind
use Rattle.local_executor.specs.declared.errors.LocalError.{LocalError}
use Rattle.local_executor.specs.declared.errors.LocalError.TheVariants as local
use Rattle.local_executor.specs.declared.errors.RunError.{RunError}
use Rattle.local_executor.specs.declared.errors.RunError.TheVariants as run

abbrev pub of_making : LocalError → ErrorKind
of_making local.NoMemory = kind.OutOfMemory
of_making local.NoRandom = kind.Other

abbrev pub of_run : RunError → ErrorKind
of_run run.NoMemory = kind.OutOfMemory
of_run run.Finished = kind.UnexpectedEof
