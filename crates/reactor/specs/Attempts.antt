-- The outcome of a read or a write.
use Rattle.std.specs.Prelude.{◌≡◌, ◌<◌, ℕ, Result, Ok, Err}
use Rattle.std.specs.IoError.{error_kind}
use Rattle.std.specs.declared.io.Error.{Error}
use Rattle.std.specs.declared.io.ErrorKind.TheVariants.{WouldBlock}
use Rattle.reactor.specs.declared.parts.attempt.Attempt.{Attempt}
use Rattle.reactor.specs.declared.parts.attempt.Attempt.TheVariants.{Done, Blocked}
use Rattle.reactor.specs.declared.parts.attempt.Transfer.{Transfer}
use Rattle.reactor.specs.declared.parts.attempt.Transfer.TheVariants as transfer

module _ {T : Type 0} where
  -- the call said that it would block
  abbrev pub WouldHaveBlocked : Result T Error → Type 0
  WouldHaveBlocked (Ok x) = ⊥
  WouldHaveBlocked (Err error) = error_kind error ≡ WouldBlock

  -- what the call gave, unless it would have blocked; else the tick that was read before it
  abbrev pub IsAttemptOf : (Result T Error → Type 0) → ℕ → Attempt T → Type 0
  IsAttemptOf gives tick (Done done) = gives done × ¬ (WouldHaveBlocked done)
  IsAttemptOf gives tick (Blocked stale) = (stale.tick ≡ tick) × ((done : _) × gives done × WouldHaveBlocked done)

-- some bytes were moved, and fewer than were asked for
abbrev pub WasShort : ℕ → Result ℕ Error → Type 0
WasShort most (Ok count) = (0 < count) × (count < most)
WasShort most (Err _) = ⊥

-- what the call gave, where the next is worth a try; else the tick that was read before it
abbrev pub IsTransferOf : (Result ℕ Error → Type 0) → ℕ → ℕ → Transfer → Type 0
IsTransferOf gives most tick (transfer.Done done) = gives done × ¬ (WouldHaveBlocked done) × ¬ (WasShort most done)
IsTransferOf gives most tick (transfer.Short count stale) = (stale.tick ≡ tick) × gives (Ok count) × WasShort most (Ok count)
IsTransferOf gives most tick (transfer.Blocked stale) = (stale.tick ≡ tick) × ((done : _) × gives done × WouldHaveBlocked done)
