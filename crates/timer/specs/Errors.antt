-- What an error is to a program whose errors are the library's.
use Rattle.std.specs.Prelude.{Bool, true, false, Result, Ok, Err}
use Rattle.timer.specs.declared.errors.Stopped.{Stopped}
use Rattle.std.specs.declared.io.ErrorKind.{ErrorKind}
use Rattle.std.specs.declared.io.ErrorKind.TheVariants as kind
use Rattle.timer.specs.declared.errors.TimerError.{TimerError}
use Rattle.timer.specs.declared.errors.TimerError.TheVariants as timer
use Rattle.timer.specs.declared.errors.SleepError.{SleepError}
use Rattle.timer.specs.declared.errors.SleepError.TheVariants as sleep
use Rattle.timer.specs.declared.errors.TimeoutError.{TimeoutError}
use Rattle.timer.specs.declared.errors.TimeoutError.TheVariants as timeout
use Rattle.timer.specs.declared.deadlines.Refused.{Refused}
use Rattle.timer.specs.declared.deadlines.Refused.TheVariants.{Full, Closed}

-- what a sleep is ready with: an error where the timer was stopped before
abbrev pub woken : Bool → Result Unit Stopped
woken true = Err (record {})
woken false = Ok tt

abbrev pub of_timer : TimerError → ErrorKind
of_timer timer.NoMemory = kind.OutOfMemory
of_timer timer.NoClock = kind.Other

abbrev pub of_sleep : SleepError → ErrorKind
of_sleep sleep.Full = kind.WouldBlock
of_sleep sleep.Closed = kind.BrokenPipe

abbrev pub of_timeout : TimeoutError → ErrorKind
of_timeout timeout.Elapsed = kind.TimedOut
of_timeout timeout.Stopped = kind.BrokenPipe

abbrev pub of_refused : Refused → SleepError
of_refused Full = sleep.Full
of_refused Closed = sleep.Closed
