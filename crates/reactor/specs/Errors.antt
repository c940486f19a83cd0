-- What an error is to a program whose errors are the library's.
use Rattle.std.specs.declared.io.ErrorKind.{ErrorKind}
use Rattle.std.specs.declared.io.ErrorKind.TheVariants.{OutOfMemory, BrokenPipe}
use Rattle.reactor.specs.declared.errors.SourceError.{SourceError}
use Rattle.reactor.specs.declared.errors.SourceError.TheVariants.{NoMemory, Closed}

abbrev pub of_source : SourceError → ErrorKind
of_source NoMemory = OutOfMemory
of_source Closed = BrokenPipe
