-- The message that comes back.
use Rattle.std.specs.Prelude.{◌≡◌, ℕ, IsSome, Option, Some, None, Result, Ok, Err}
use Rattle.async_task.specs.declared.poll.Poll.{Poll}
use Rattle.async_task.specs.declared.poll.Poll.TheVariants.{Ready, Pending}
use Rattle.waiting.specs.declared.channel.errors.TrySendError.{TrySendError}
use Rattle.waiting.specs.declared.channel.errors.TrySendError.TheVariants as tried
use Rattle.waiting.specs.declared.channel.errors.SendError.{SendError}
use Rattle.waiting.specs.declared.channel.errors.SendError.TheVariants as unsent
use Rattle.waiting.specs.declared.channel.sending.Tried.{Tried}
use Rattle.waiting.specs.declared.channel.sending.Tried.TheVariants.{Sent, Refused, Waits, Again}

module _ {T : Type 0} where
  -- a try with this message, in a channel with this many places: a message that isn't sent comes back
  abbrev pub MayTrySend : {X : Type 0} → Option ℕ → T → Result X (TrySendError T) → Type 0
  MayTrySend places message (Ok _) = Unit {0}
  MayTrySend places message (Err (tried.Full back)) = IsSome places × (back ≡ message)
  MayTrySend places message (Err (tried.Closed back)) = back ≡ message
  MayTrySend places message (Err (tried.NoMemory back)) = (places ≡ None) × (back ≡ message)

  abbrev pub refused : SendError T → T
  refused (unsent.Closed message) = message
  refused (unsent.NoMemory message) = message

  -- a try with this message: it was sent, or comes back
  abbrev pub HasTried : T → Tried T → Type 0
  HasTried message (Sent _) = Unit {0}
  HasTried message (Refused error) = refused error ≡ message
  HasTried message (Waits back) = back ≡ message
  HasTried message (Again back) = back ≡ message

  -- a poll with this message: it was sent, or comes back, or is still there
  abbrev pub IsBack : Option T → Option T → Poll (Result (Unit {0}) (SendError T)) → Type 0
  IsBack old new (Ready (Ok _)) = new ≡ None
  IsBack old new (Ready (Err error)) = (old ≡ Some (refused error)) × (new ≡ None)
  IsBack old new Pending = new ≡ old

  -- a poll with this message: it was sent, or is still there
  abbrev pub IsSentOrBack : Option T → Option T → Poll (Result (Unit {0}) (SendError (Unit {0}))) → Type 0
  IsSentOrBack old new (Ready (Ok _)) = new ≡ None
  IsSentOrBack old new (Ready (Err _)) = new ≡ old
  IsSentOrBack old new Pending = new ≡ old
