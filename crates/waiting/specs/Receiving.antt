-- Which kind of error it is that no message came in time.
use Rattle.std.specs.declared.io.ErrorKind.{ErrorKind}
use Rattle.std.specs.declared.io.ErrorKind.TheVariants as kind
use Rattle.waiting.specs.declared.channel.errors.RecvTimeoutError.{RecvTimeoutError}
use Rattle.waiting.specs.declared.channel.errors.RecvTimeoutError.TheVariants.{Elapsed, Stopped, Closed, NoMemory}

abbrev pub kind_of : RecvTimeoutError → ErrorKind
kind_of Elapsed = kind.TimedOut
kind_of Stopped = kind.BrokenPipe
kind_of Closed = kind.BrokenPipe
kind_of NoMemory = kind.OutOfMemory
