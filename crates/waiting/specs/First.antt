-- What a poll of the first of two futures leaves and answers.
use Rattle.std.specs.Prelude.{◌≡◌, IsSome, Option, Some, None}
use Rattle.async_task.specs.declared.poll.Poll.{Poll}
use Rattle.async_task.specs.declared.poll.Poll.TheVariants.{Ready, Pending}
use Rattle.waiting.specs.declared.first.Either.{Either}
use Rattle.waiting.specs.declared.first.Either.TheVariants.{Left, Right}

module _ {A X B Y : Type 0} where
  -- pending, and both are kept; or one is ready, and none is kept: beside the first's output the second comes back as it was,
  -- unpolled. Polled once more it is pending
  abbrev pub HasSelected : Option (A × B) → Option (A × B) → Poll (Either (X × B) (Y × A)) → Type 0
  HasSelected None new answer = (answer ≡ Pending) × (new ≡ None)
  HasSelected (Some both) new Pending = IsSome new
  HasSelected (Some both) new (Ready (Left first)) = (first.1 ≡ both.1) × (new ≡ None)
  HasSelected (Some both) new (Ready (Right second)) = new ≡ None
