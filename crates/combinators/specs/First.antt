-- What a poll of the first of three futures leaves and answers.
use Rattle.std.specs.Prelude.{◌≡◌, IsSome, Option, Some, None}
use Rattle.async_task.specs.declared.poll.Poll.{Poll}
use Rattle.async_task.specs.declared.poll.Poll.TheVariants.{Ready, Pending}
use Rattle.combinators.specs.declared.first_of_three.Either3.{Either3}
use Rattle.combinators.specs.declared.first_of_three.Either3.TheVariants.{First, Second, Third}

module _ {A X B Y C Z : Type 0} where
  -- pending, and all three are kept; or one is ready, and none is kept: those after it come back as they were, unpolled. Polled
  -- once more it is pending
  abbrev pub HasSelected3 :
      Option (A × B × C) → Option (A × B × C) → Poll (Either3 (X × B × C) (Y × A × C) (Z × A × B)) → Type 0
  HasSelected3 None new answer = (answer ≡ Pending) × (new ≡ None)
  HasSelected3 (Some all) new Pending = IsSome new
  HasSelected3 (Some all) new (Ready (First first)) = (first.1 ≡ all.1) × (first.2 ≡ all.2) × (new ≡ None)
  HasSelected3 (Some all) new (Ready (Second second)) = (second.2 ≡ all.2) × (new ≡ None)
  HasSelected3 (Some all) new (Ready (Third third)) = new ≡ None
