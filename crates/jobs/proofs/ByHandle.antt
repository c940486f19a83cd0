-- What handles gave.
use Rattle.std.proofs.Common.{◌≡◌, ℕ, [], Option, Some, None, Result, Ok, Err}
use Rattle.std.specs.Prelude.{All}
use Rattle.std.proofs.lemmas.List.Elements.{All-cons, All-nil}
use Rattle.async_task.specs.declared.poll.Poll.{Poll}
use Rattle.async_task.specs.declared.poll.Poll.TheVariants.{Ready, Pending}
use Rattle.jobs.specs.declared.job.Solved.{Solved}
use Rattle.jobs.specs.declared.site.Awaited.{Awaited}
use Rattle.jobs.specs.Bringing.{CameByHandle, Gives, given_by, number_awaited}

-- the handle that was awaited
pub handle_of : (old : Option Awaited) (number : ℕ) → number_awaited old ≡ Some number → (awaited : Awaited) × (number ≡ awaited.number)
handle_of None number is = absurd (let none : None ≡ Some number = is in cc)
handle_of (Some awaited) number is = (awaited, let same : Some awaited.number ≡ Some number = is in cc)

-- what a poll of a handle gave came by that handle
pub given_came : {E : Type 0} (old new : Option Awaited) (result : Poll (Result (Option Solved) E))
    → Gives old new result → All CameByHandle (given_by result)
given_came old new (Ready (Ok (Some solved))) gives =
    All-cons CameByHandle solved [] (handle_of old solved.number gives.0) (All-nil CameByHandle)
given_came old new (Ready (Ok None)) gives = All-nil CameByHandle
given_came old new (Ready (Err _)) gives = All-nil CameByHandle
given_came old new Pending gives = All-nil CameByHandle
