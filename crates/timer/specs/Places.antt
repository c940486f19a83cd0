-- What stands at a place.
use Rattle.std.specs.Prelude.{Bool, true, false, Option, Some, None}
use Rattle.timer.specs.declared.deadlines.Place.{Place}
use Rattle.timer.specs.declared.deadlines.Place.TheVariants.{Asleep, Due, Stopped}

module _ {K : Type 0} where
  -- whether a sleeper is there
  abbrev pub is_asleep : Option (Place K) → Bool
  is_asleep (Some (Asleep waker)) = true
  is_asleep (Some Due) = false
  is_asleep (Some Stopped) = false
  is_asleep None = false

  -- whether the sleeper of this place is due, or had left it
  abbrev pub is_up : Option (Place K) → Bool
  is_up (Some (Asleep waker)) = false
  is_up (Some Due) = true
  is_up (Some Stopped) = false
  is_up None = true

  -- the waker of the sleeper at this place
  abbrev pub waker_at : Option (Place K) → Option K
  waker_at (Some (Asleep waker)) = waker
  waker_at (Some Due) = None
  waker_at (Some Stopped) = None
  waker_at None = None

  -- the sleeper at this place is marked so from now on, if there is one
  abbrev pub marked : Place K → Option (Place K) → Option (Place K)
  marked mark (Some place) = Some mark
  marked mark None = None

  -- the sleeper at this place is due from now on, if there is one
  abbrev pub made_due : Option (Place K) → Option (Place K)
  made_due = marked Due
