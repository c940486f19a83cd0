-- The work that comes back.
use Rattle.std.specs.Prelude.{◌≡◌, Result, Ok, Err}
use Rattle.waiting.specs.declared.channel.errors.TrySendError.{TrySendError}
use Rattle.waiting.specs.declared.channel.errors.TrySendError.TheVariants as tried
use Rattle.offload.specs.declared.errors.TryRunError.{TryRunError}
use Rattle.offload.specs.declared.errors.TryRunError.TheVariants as refused
use Rattle.offload.specs.declared.shared.Put.{Put}
use Rattle.offload.specs.declared.shared.Put.TheVariants.{Came, Waits, Closed, NoMemory}

module _ {T : Type 0} where
  -- a piece that isn't accepted at once comes back. There are places for all, so none wants memory
  abbrev pub MayPut : {X : Type 0} → T → Result X (TrySendError T) → Type 0
  MayPut item (Ok _) = Unit {0}
  MayPut item (Err (tried.Full back)) = back ≡ item
  MayPut item (Err (tried.Closed back)) = back ≡ item
  MayPut item (Err (tried.NoMemory back)) = back ≡ item

  -- a piece that isn't accepted comes back
  abbrev pub HasPut : T → Put T → Type 0
  HasPut item (Came _) = Unit {0}
  HasPut item (Waits back) = back ≡ item
  HasPut item (Closed back) = back ≡ item
  HasPut item (NoMemory back) = back ≡ item

  -- work that isn't accepted at once comes back
  abbrev pub IsRefused : {X : Type 0} → T → Result X (TryRunError T) → Type 0
  IsRefused job (Ok _) = Unit {0}
  IsRefused job (Err (refused.Full back)) = back ≡ job
  IsRefused job (Err (refused.Closed back)) = back ≡ job
  IsRefused job (Err (refused.NoMemory back)) = back ≡ job
