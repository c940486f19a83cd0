-- What each section does with a value that one party has at a time, and with its waiters.
use Rattle.std.specs.Prelude.{◌≡◌, ℕ, ◌+◌, Bool, true, false, List, [], ◌∷◌, ◌++◌, remove, slice_get, slice_set, Option, Some, None, Result, Ok, Err}
use Rattle.waiting.specs.Waiters.{Waiters, position_of, waker_in, told}
use Rattle.async_lock.specs.declared.room.Place.{Place}
use Rattle.async_lock.specs.declared.room.Place.TheVariants.{Free, Promised, Out}
use Rattle.async_lock.specs.declared.room.Held.{Held}
use Rattle.async_lock.specs.declared.room.Found.{Found}
use Rattle.async_lock.specs.declared.room.Found.TheVariants as found
use Rattle.async_lock.specs.declared.room.GaveUp.{GaveUp}
use Rattle.async_lock.specs.declared.room.GaveUp.TheVariants as gave
use Rattle.async_lock.specs.declared.room.Promise.{Promise}

module _ {T : Type 0} where
  abbrev pub is_free : Place T → Bool
  is_free (Free _) = true
  is_free _ = false

  -- the value, where nobody has it
  abbrev pub value_in : Place T → Option T
  value_in (Free value) = Some value
  value_in (Promised value) = Some value
  value_in Out = None

  -- the value was free, and is out; or it wasn't, and stays where it was
  abbrev pub HasTaken : Place T → Place T → Option (Held T) → Type 0
  HasTaken old new (Some held) = (old ≡ Free held.value) × (new ≡ Out)
  HasTaken old new None = (is_free old ≡ false) × (new ≡ old)

module _ {K : Type 0} where
  -- one more waits, the last of all, with this waker
  abbrev pub joined : Option K → Waiters K → Waiters K
  joined waker w = record { next = w.next + 1; waiting = w.waiting ++ (w.next, waker) ∷ [] }

module _ {T : Type 0} {K : Type 0} where
  -- what a new caller finds: the value, where it was free; else it waits, or there is no memory for that
  abbrev pub HasCome : Option K → Place T → Waiters K → Place T → Waiters K → Found T K → Type 0
  HasCome waker old waiters new left (found.Taken held back) = (old ≡ Free held.value) × (new ≡ Out) × (left ≡ waiters) × (back ≡ waker)
  HasCome waker old waiters new left (found.Waits listening before) = (is_free old ≡ false) × (new ≡ old) × (left ≡ joined waker waiters)
      × (listening.number ≡ waiters.next) × (before ≡ None)
  HasCome waker old waiters new left (found.NoMemory back) = (is_free old ≡ false) × (new ≡ old) × (left ≡ waiters) × (back ≡ waker)

  -- the value that was promised is taken; where none was, it does as a new caller does
  abbrev pub HasRedeemed : Option K → Place T → Waiters K → Place T → Waiters K → Found T K → Type 0
  HasRedeemed waker (Promised value) waiters new left (found.Taken held back) =
      (held.value ≡ value) × (new ≡ Out) × (left ≡ waiters) × (back ≡ waker)
  HasRedeemed waker (Promised value) waiters new left _ = ⊥
  HasRedeemed waker old waiters new left result = HasCome waker old waiters new left result

  -- it waits on, with the new waker in the place of the old one
  abbrev pub WaitsOn : ℕ → Option K → ℕ → Waiters K → Waiters K → Found T K → Type 0
  WaitsOn number waker at waiters left (found.Waits listening before) = (waker_in (slice_get waiters.waiting at) ≡ before)
      × (listening.number ≡ number) × (left ≡ record waiters { waiting = slice_set waiters.waiting at (number, waker) })
  WaitsOn number waker at waiters left _ = ⊥

  abbrev pub HasFoundAt : Option ℕ → ℕ → Option K → Place T → Waiters K → Place T → Waiters K → Found T K → Type 0
  HasFoundAt (Some at) number waker old waiters new left result = (new ≡ old) × WaitsOn number waker at waiters left result
  HasFoundAt None number waker old waiters new left result = HasRedeemed waker old waiters new left result

  -- what a waiter finds: where it is in the list it waits on; else it was woken, and takes what was promised
  abbrev pub HasFound : ℕ → Option K → Place T → Waiters K → Place T → Waiters K → Found T K → Type 0
  HasFound number waker old waiters new left result =
      HasFoundAt (position_of number waiters.waiting) number waker old waiters new left result

  abbrev pub HasGivenTo : T → List (ℕ × Option K) → Place T → Option K → Type 0
  HasGivenTo value [] new waker = (new ≡ Free value) × (waker ≡ None)
  HasGivenTo value (first ∷ _) new waker = (new ≡ Promised value) × (waker ≡ first.1)

  -- the value is promised to the first waiter, who waits no more; or free where nobody waits
  abbrev pub HasGiven : T → Waiters K → Place T → Waiters K → Option K → Type 0
  HasGiven value waiters new left waker = HasGivenTo value waiters.waiting new waker × (left ≡ told waiters)

  -- the value that was promised goes on, if it was
  abbrev pub HasPassedOn : Place T → Waiters K → Place T → Waiters K → Option K → Type 0
  HasPassedOn (Promised value) waiters new left waker = HasGiven value waiters new left waker
  HasPassedOn old waiters new left waker = (new ≡ old) × (left ≡ waiters) × (waker ≡ None)

  -- how a waiter gave up: its entry went; or it has none, and the value that was promised to it went on
  abbrev pub HasGivenUp : ℕ → Place T → Waiters K → Place T → Waiters K → GaveUp K → Type 0
  HasGivenUp number old waiters new left (gave.Left waker) = (at : ℕ) × (position_of number waiters.waiting ≡ Some at)
      × (waker_in (slice_get waiters.waiting at) ≡ waker) × (new ≡ old)
      × (left ≡ record waiters { waiting = remove waiters.waiting at })
  HasGivenUp number old waiters new left (gave.PassedOn promise) =
      (position_of number waiters.waiting ≡ None) × HasPassedOn old waiters new left promise.waker

  -- a value was put in where none was there; else it comes back, and nothing changes
  abbrev pub HasPut : T → Place T → Waiters K → Place T → Waiters K → Result (Promise K) T → Type 0
  HasPut value Out waiters new left (Ok promise) = HasGiven value waiters new left promise.waker
  HasPut value Out waiters new left (Err _) = ⊥
  HasPut value old waiters new left (Err back) = (back ≡ value) × (new ≡ old) × (left ≡ waiters)
  HasPut value old waiters new left (Ok _) = ⊥
