-- What a poll of a future of the library's gave, and what that says of the future. `may` says which outputs a state may give.
use Rattle.std.specs.Prelude.{◌≡◌, ℕ, Option, Some, None, Result, Ok, Err, IsSome, IsSomeAnd}
use Rattle.async_task.specs.declared.poll.Poll.{Poll}
use Rattle.async_task.specs.declared.poll.Poll.TheVariants as polls
use Rattle.kit_futures.specs.declared.errors.AwaitError.{AwaitError}
use Rattle.kit_futures.specs.declared.errors.AwaitError.TheVariants as awaits
use Rattle.kit_futures.specs.declared.pollable.Polled.{Polled}
use Rattle.kit_futures.specs.declared.pollable.Polled.TheVariants as polled

module _ {S O : Type 0} where
  -- an output that it might give, whose task of this number is to be ended; or it is in a state that may give no more than before
  abbrev pub IsPolled : ℕ → (S → O → Type 0) → S → Polled S O → Type 0
  IsPolled number may old (polled.Ready output ended) = may old output × (ended.number ≡ number)
  IsPolled number may old (polled.Pending new _) = (output : O) → may new output → may old output

  -- an output that it might give, and it is gone; an error, and it is gone or was before; or it is in a state that may give no more
  abbrev pub IsAwaited : (S → O → Type 0) → Option S → Option S → Poll (Result O AwaitError) → Type 0
  IsAwaited may old new (polls.Ready (Ok output)) = IsSomeAnd old (λ state. may state output) × (new ≡ None)
  IsAwaited may old new (polls.Ready (Err (awaits.Closed _))) = IsSome old × (new ≡ None)
  IsAwaited may old new (polls.Ready (Err awaits.Finished)) = (old ≡ None) × (new ≡ None)
  IsAwaited may old new polls.Pending =
      IsSomeAnd old (λ before. IsSomeAnd new (λ after. (output : O) → may after output → may before output))

  -- it waits, and is as it was; or it can't be woken any more, and is gone
  abbrev pub IsLeft : S → Option S → Poll (Result O AwaitError) → Type 0
  IsLeft old new (polls.Ready (Ok output)) = ⊥
  IsLeft old new (polls.Ready (Err (awaits.Closed _))) = new ≡ None
  IsLeft old new (polls.Ready (Err awaits.Finished)) = ⊥
  IsLeft old new polls.Pending = new ≡ Some old
