use Rattle.ready_queue.specs.declared.errors.SpawnError.{SpawnError}
use Rattle.ready_queue.specs.declared.errors.SpawnError.TheVariants.{Full, Closed, NoMemory}
use Rattle.std.specs.declared.io.ErrorKind.{ErrorKind}
use Rattle.std.specs.declared.io.ErrorKind.TheVariants.{BrokenPipe, OutOfMemory, WouldBlock}

-- The future that a refusal hands back.
abbrev pub refused : {F : Type 0} → SpawnError F → F
refused (Full f) = f
refused (Closed f) = f
refused (NoMemory f) = f

-- The kind of the error that a program has of it.
abbrev pub kind_of : {F : Type 0} → SpawnError F → ErrorKind
kind_of (Full _) = WouldBlock
kind_of (Closed _) = BrokenPipe
kind_of (NoMemory _) = OutOfMemory
