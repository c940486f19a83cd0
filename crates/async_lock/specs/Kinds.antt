-- What an error is to a program whose errors are the library's.
use Rattle.std.specs.declared.io.ErrorKind.{ErrorKind}
use Rattle.std.specs.declared.io.ErrorKind.TheVariants.{OutOfMemory, WouldBlock}
use Rattle.async_lock.specs.declared.errors.TryLockError.{TryLockError}
use Rattle.async_lock.specs.declared.errors.TryLockError.TheVariants.{Locked, NoMemory}

abbrev pub kind_of_try_lock : TryLockError → ErrorKind
kind_of_try_lock Locked = WouldBlock
kind_of_try_lock NoMemory = OutOfMemory
