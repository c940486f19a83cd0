-- Which fault each error of a channel or a semaphore is.
use Rattle.waiting.specs.declared.channel.errors.TrySendError.{TrySendError}
use Rattle.waiting.specs.declared.channel.errors.TrySendError.TheVariants as tried
use Rattle.waiting.specs.declared.channel.errors.SendError.{SendError}
use Rattle.waiting.specs.declared.channel.errors.SendError.TheVariants as sent
use Rattle.waiting.specs.declared.channel.errors.TryRecvError.{TryRecvError}
use Rattle.waiting.specs.declared.channel.errors.TryRecvError.TheVariants as looked
use Rattle.waiting.specs.declared.channel.errors.RecvError.{RecvError}
use Rattle.waiting.specs.declared.channel.errors.RecvError.TheVariants as received
use Rattle.waiting.specs.declared.semaphore.errors.TryAcquireError.{TryAcquireError}
use Rattle.waiting.specs.declared.semaphore.errors.TryAcquireError.TheVariants as wanted
use Rattle.waiting.specs.declared.semaphore.errors.AcquireError.{AcquireError}
use Rattle.waiting.specs.declared.semaphore.errors.AcquireError.TheVariants as acquired
use Rattle.waiting.specs.declared.channel.errors.RecvTimeoutError.{RecvTimeoutError}
use Rattle.waiting.specs.declared.channel.errors.RecvTimeoutError.TheVariants as timed
use Rattle.workers.specs.declared.fault.Fault.{Fault}
use Rattle.workers.specs.declared.fault.Fault.TheVariants.{Full, NoMemory, Closed, Elapsed, Empty}

module _ {T : Type 0} where
  abbrev pub of_try_send : TrySendError T → Fault
  of_try_send (tried.Full _) = Full
  of_try_send (tried.Closed _) = Closed
  of_try_send (tried.NoMemory _) = NoMemory

  abbrev pub of_send : SendError T → Fault
  of_send (sent.Closed _) = Closed
  of_send (sent.NoMemory _) = NoMemory

abbrev pub of_try_recv : TryRecvError → Fault
of_try_recv looked.Empty = Empty
of_try_recv looked.Closed = Closed

abbrev pub of_recv : RecvError → Fault
of_recv received.Closed = Closed
of_recv received.NoMemory = NoMemory

abbrev pub of_recv_timeout : RecvTimeoutError → Fault
of_recv_timeout timed.Elapsed = Elapsed
of_recv_timeout timed.Stopped = Closed
of_recv_timeout timed.Closed = Closed
of_recv_timeout timed.NoMemory = NoMemory

abbrev pub of_try_acquire : TryAcquireError → Fault
of_try_acquire wanted.NoPermits = Full
of_try_acquire wanted.Closed = Closed
of_try_acquire wanted.NoMemory = NoMemory

abbrev pub of_acquire : AcquireError → Fault
of_acquire acquired.Closed = Closed
of_acquire acquired.NoMemory = NoMemory
