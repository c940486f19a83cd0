-- What a poll of both of two futures leaves and answers.
use Rattle.std.specs.Prelude.{◌≡◌, Option, Some, None}
use Rattle.async_task.specs.declared.poll.Poll.{Poll}
use Rattle.async_task.specs.declared.poll.Poll.TheVariants.{Ready, Pending}
use Rattle.waiting.specs.declared.both.Awaited.{Awaited}
use Rattle.waiting.specs.declared.both.Awaited.TheVariants.{Waiting, Done, Given}

module _ {F : Type 0} {T : Type 0} where
  -- the output that is kept
  abbrev pub output_of : Awaited F T → Option T
  output_of (Done output) = Some output
  output_of _ = None

  -- an output that is kept or was given stays so
  abbrev pub Stays : Awaited F T → Awaited F T → Type 0
  Stays (Waiting future) new = Unit {0}
  Stays old new = new ≡ old

  -- the output is the one that was kept; or a poll gave it now
  abbrev pub MayGive : Awaited F T → T → Type 0
  MayGive (Waiting future) output = Unit {0}
  MayGive (Done kept) output = output ≡ kept
  MayGive Given output = ⊥

module _ {A X B Y : Type 0} where
  -- one of them has no output to give
  abbrev pub IsPending : Awaited A X → Awaited B Y → Type 0
  IsPending (Done first) (Done second) = ⊥
  IsPending first second = Unit {0}

  -- ready with both outputs, which are given then; or pending while one has none, and what is kept stays
  abbrev pub HasJoined : Awaited A X → Awaited B Y → Awaited A X → Awaited B Y → Poll (X × Y) → Type 0
  HasJoined first second newfirst newsecond (Ready both) = MayGive first both.0 × MayGive second both.1
      × (newfirst ≡ Given) × (newsecond ≡ Given)
  HasJoined first second newfirst newsecond Pending = Stays first newfirst × Stays second newsecond × IsPending newfirst newsecond
