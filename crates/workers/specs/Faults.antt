-- Which fault each error is.
use Rattle.std.specs.Prelude.{Result, Ok, Err}
use Rattle.std.specs.declared.io.ErrorKind.{ErrorKind}
use Rattle.std.specs.declared.io.ErrorKind.TheVariants as kind
use Rattle.async_task.specs.declared.errors.RealmError.{RealmError}
use Rattle.async_task.specs.declared.errors.RealmError.TheVariants as realm
use Rattle.async_task.specs.declared.task.TaskError.{TaskError}
use Rattle.async_task.specs.declared.task.TaskError.TheVariants as task
use Rattle.async_executor.specs.declared.errors.SpawnError.{SpawnError}
use Rattle.async_executor.specs.declared.errors.SpawnError.TheVariants as spawn
use Rattle.async_executor.specs.declared.errors.RunError.{RunError}
use Rattle.async_executor.specs.declared.errors.RunError.TheVariants as run
use Rattle.workers.specs.declared.fault.Fault.{Fault}
use Rattle.ready_queue.specs.declared.errors.SpawnError.{SpawnError as QueueSpawnError}
use Rattle.ready_queue.specs.declared.errors.SpawnError.TheVariants as queue
use Rattle.timer.specs.declared.errors.TimerError.{TimerError}
use Rattle.timer.specs.declared.errors.TimerError.TheVariants as timer
use Rattle.timer.specs.declared.errors.SleepError.{SleepError}
use Rattle.timer.specs.declared.errors.SleepError.TheVariants as sleep
use Rattle.timer.specs.declared.errors.TimeoutError.{TimeoutError}
use Rattle.timer.specs.declared.errors.TimeoutError.TheVariants as timeout
use Rattle.workers.specs.declared.fault.Fault.TheVariants.{Full, NoMemory, TaskClosed, Finished, NoRandom, Closed, Empty, Elapsed, NoClock}

abbrev pub of_spawn : {F : Type 0} → SpawnError F → Fault
of_spawn (spawn.Full _) = Full
of_spawn (spawn.NoMemory _) = NoMemory

abbrev pub of_run : RunError → Fault
of_run run.NoMemory = NoMemory
of_run run.Finished = Finished

abbrev pub of_task : TaskError → Fault
of_task task.TaskClosed = TaskClosed
of_task task.NoMemory = NoMemory

abbrev pub of_realm : RealmError → Fault
of_realm realm.NoMemory = NoMemory
of_realm realm.NoRandom = NoRandom

abbrev pub of_queue_spawn : {F : Type 0} → QueueSpawnError F → Fault
of_queue_spawn (queue.Full _) = Full
of_queue_spawn (queue.Closed _) = Closed
of_queue_spawn (queue.NoMemory _) = NoMemory

abbrev pub of_timer : TimerError → Fault
of_timer timer.NoMemory = NoMemory
of_timer timer.NoClock = NoClock

abbrev pub of_sleep : SleepError → Fault
of_sleep sleep.Full = Full
of_sleep sleep.Closed = Closed

abbrev pub of_timeout : TimeoutError → Fault
of_timeout timeout.Elapsed = Elapsed
of_timeout timeout.Stopped = Closed

-- the one answer of three: a parker that couldn't be had is want of memory
abbrev pub answered : {T G : Type 0} → Result (Result (Result T TaskError) RunError) G → Result T Fault
answered (Ok (Ok (Ok output))) = Ok output
answered (Ok (Ok (Err error))) = Err (of_task error)
answered (Ok (Err error)) = Err (of_run error)
answered (Err _) = Err NoMemory

-- the kind of the error that a program has of it
abbrev pub kind_of : Fault → ErrorKind
kind_of Full = kind.WouldBlock
kind_of NoMemory = kind.OutOfMemory
kind_of TaskClosed = kind.BrokenPipe
kind_of Finished = kind.UnexpectedEof
kind_of NoRandom = kind.Other
kind_of Closed = kind.BrokenPipe
kind_of Empty = kind.WouldBlock
kind_of Elapsed = kind.TimedOut
kind_of NoClock = kind.Other
