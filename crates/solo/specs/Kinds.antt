-- What a refusal is to a program whose errors are the library's.
use Rattle.std.specs.declared.io.ErrorKind.{ErrorKind}
use Rattle.std.specs.declared.io.ErrorKind.TheVariants.{OutOfMemory, WouldBlock}
use Rattle.solo.specs.declared.owed.SpawnError.{SpawnError}
use Rattle.solo.specs.declared.owed.SpawnError.TheVariants.{Full, NoMemory}

abbrev pub of_spawn : {F : Type 0} → SpawnError F → ErrorKind
of_spawn (Full _) = WouldBlock
of_spawn (NoMemory _) = OutOfMemory
