-- What an error is to a program whose errors are the library's.
use Rattle.std.specs.declared.io.ErrorKind.{ErrorKind}
use Rattle.std.specs.declared.io.ErrorKind.TheVariants.{BrokenPipe, OutOfMemory, WouldBlock}
use Rattle.waiting.specs.declared.channel.errors.TrySendError.{TrySendError}
use Rattle.waiting.specs.declared.channel.errors.TrySendError.TheVariants as tried
use Rattle.waiting.specs.declared.channel.errors.SendError.{SendError}
use Rattle.waiting.specs.declared.channel.errors.SendError.TheVariants as sent
use Rattle.waiting.specs.declared.channel.errors.TryRecvError.{TryRecvError}
use Rattle.waiting.specs.declared.channel.errors.TryRecvError.TheVariants as looked
use Rattle.waiting.specs.declared.channel.errors.RecvError.{RecvError}
use Rattle.waiting.specs.declared.channel.errors.RecvError.TheVariants as received
use Rattle.waiting.specs.declared.semaphore.errors.TryAcquireError.{TryAcquireError}
use Rattle.waiting.specs.declared.semaphore.errors.TryAcquireError.TheVariants as wanted
use Rattle.waiting.specs.declared.semaphore.errors.AcquireError.{AcquireError}
use Rattle.waiting.specs.declared.semaphore.errors.AcquireError.TheVariants as acquired

module _ {T : Type 0} where
  abbrev pub of_try_send : TrySendError T → ErrorKind
  of_try_send (tried.Full _) = WouldBlock
  of_try_send (tried.Closed _) = BrokenPipe
  of_try_send (tried.NoMemory _) = OutOfMemory

  abbrev pub of_send : SendError T → ErrorKind
  of_send (sent.Closed _) = BrokenPipe
  of_send (sent.NoMemory _) = OutOfMemory

abbrev pub of_try_recv : TryRecvError → ErrorKind
of_try_recv looked.Empty = WouldBlock
of_try_recv looked.Closed = BrokenPipe

abbrev pub of_recv : RecvError → ErrorKind
of_recv received.Closed = BrokenPipe
of_recv received.NoMemory = OutOfMemory

abbrev pub of_try_acquire : TryAcquireError → ErrorKind
of_try_acquire wanted.NoPermits = WouldBlock
of_try_acquire wanted.Closed = BrokenPipe
of_try_acquire wanted.NoMemory = OutOfMemory

abbrev pub of_acquire : AcquireError → ErrorKind
of_acquire acquired.Closed = BrokenPipe
of_acquire acquired.NoMemory = OutOfMemory
