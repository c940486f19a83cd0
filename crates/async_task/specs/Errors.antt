-- What an error is to a program whose errors are the library's.
use Rattle.std.specs.declared.io.ErrorKind.{ErrorKind}
use Rattle.std.specs.declared.io.ErrorKind.TheVariants.{BrokenPipe, OutOfMemory, Other}
use Rattle.async_task.specs.declared.errors.RealmError.{RealmError}
use Rattle.async_task.specs.declared.errors.RealmError.TheVariants.{NoMemory, NoRandom}
use Rattle.async_task.specs.declared.task.TaskError.{TaskError}
use Rattle.async_task.specs.declared.task.TaskError.TheVariants as task

abbrev pub kind_of : RealmError → ErrorKind
kind_of NoMemory = OutOfMemory
kind_of NoRandom = Other

abbrev pub kind_of_task : TaskError → ErrorKind
kind_of_task task.TaskClosed = BrokenPipe
kind_of_task task.NoMemory = OutOfMemory
