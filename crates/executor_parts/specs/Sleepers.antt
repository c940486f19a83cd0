-- What a contract sees of `Sleepers`, and what each section does with them.
use Rattle.std.specs.Prelude.{◌≡◌, ℕ, ◌+◌, ◌-◌, ◌<◌, ◌≤◌, ◌==◌, ◌||◌, nat_lt, Bool, true, false, List, [], ◌∷◌, ◌++◌, length, take}
use Rattle.std.specs.Prelude.{remove, slice_get, slice_set, Option, Some, None, unwrap_or, refl, Vec, vec_len, vec_capacity}
use Rattle.std.specs.Coded.{Coded, code_by, coded×, coded_ℕ, coded_list}
use Rattle.std.specs.Global.{Global}
use Rattle.executor_parts.specs.declared.sleepers.Again.{Again}
use Rattle.executor_parts.specs.declared.sleepers.Again.TheVariants.{Replaced, Notified, Unknown}

pub record Sleepers (W : Type 0) : Type 0 where
  -- how many sleep
  pub count : ℕ
  -- how many may
  pub rooms : ℕ
  -- the numbers of those that are not notified, with their wakers, in the order in which these came
  pub wakers : List (ℕ × W)
  -- the numbers that were given back, the last one last
  pub free : List ℕ

-- stored as the tuple of its fields
abbrev pub sleepers_code : {W : Type 0} → Coded W → Coded (Sleepers W)
sleepers_code {W} waker =
    code_by
    (ℕ × (ℕ × (List (ℕ × W) × List ℕ)))
    (coded× coded_ℕ (coded× coded_ℕ (coded× (coded_list (coded× coded_ℕ waker)) (coded_list coded_ℕ))))
    (λ s. (s.count, (s.rooms, (s.wakers, s.free))))
    (λ p. record { count = p.0; rooms = p.1.0; wakers = p.1.1.0; free = p.1.1.1 })
    (λ _. refl)

-- what the lists of sleepers keep: no more wakers than sleepers, no more sleepers than room for them, and room for each number
pub record IsRoomy {W : Type 0} (count rooms : ℕ) (wakers : Vec (ℕ × W) Global) (free : Vec ℕ Global) : Type 0 where
  pub listed : vec_len wakers ≤ count
  pub within : count ≤ rooms
  pub wakers_fit : rooms ≤ vec_capacity wakers
  pub rooms_fit : rooms ≤ vec_capacity free
  pub numbers_fit : count + vec_len free ≤ vec_capacity free

-- a place past the head, or the head's
abbrev pub later : Option ℕ → Option ℕ → Option ℕ
later (Some at) here = Some (at + 1)
later None here = here

module _ {W : Type 0} where
  -- where the last entry of a number is
  abbrev pub position_of : ℕ → List (ℕ × W) → Option ℕ
  position_of number [] = None
  position_of number (e ∷ es) = later (position_of number es) (elim (number == e.0) [ true ↦ Some 0 | false ↦ None ])

  abbrev pub waker_in : Option (ℕ × W) → Option W
  waker_in None = None
  waker_in (Some e) = Some e.1

  abbrev pub waker_at : Option ℕ → List (ℕ × W) → Option W
  waker_at None wakers = None
  waker_at (Some at) wakers = waker_in (slice_get wakers at)

  -- the waker that a number has, if it has an entry
  abbrev pub waker_of : ℕ → List (ℕ × W) → Option W
  waker_of number wakers = waker_at (position_of number wakers) wakers

  -- the waker that was added last
  abbrev pub last_waker : List (ℕ × W) → Option W
  last_waker wakers = waker_in (slice_get wakers (length wakers - 1))

  -- nobody sleeps, or a sleeper is notified
  abbrev pub flag_of : Sleepers W → Bool
  flag_of s = (s.count == 0) || nat_lt (length s.wakers) s.count

  -- without the waker that was added last
  abbrev pub without_last : Sleepers W → Sleepers W
  without_last s = record s { wakers = take (length s.wakers - 1) s.wakers }

  -- the number of the next who falls asleep: the one that was given back last, else the one after all
  abbrev pub next_number : Sleepers W → ℕ
  next_number s = unwrap_or (slice_get s.free (length s.free - 1)) (s.count + 1)

  -- one more sleeps
  abbrev pub put_to_sleep : W → Sleepers W → Sleepers W
  put_to_sleep waker s = record s {
    count = s.count + 1;
    wakers = s.wakers ++ (next_number s, waker) ∷ [];
    free =
        take (length s.free - 1) s.free;
  }

  -- one more waker
  abbrev pub listed : ℕ → W → Sleepers W → Sleepers W
  listed number waker s = record s { wakers = s.wakers ++ (number, waker) ∷ [] }

  -- how a sleeper of this number fell asleep again: its entry's waker was replaced; it had none and got one; or all sleepers have one
  -- already, and it is none of them
  abbrev pub IsAgain : ℕ → W → Sleepers W → Sleepers W → Again W → Type 0
  IsAgain number waker old new (Replaced was) = (at : ℕ) × (position_of number old.wakers ≡ Some at)
      × (waker_of number old.wakers ≡ Some was) × (new ≡ record old { wakers = slice_set old.wakers at (number, waker) })
  IsAgain number waker old new (Notified flag) = (position_of number old.wakers ≡ None)
      × (length old.wakers < old.count) × (new ≡ listed number waker old) × (flag ≡ flag_of new)
  IsAgain number waker old new (Unknown back) = (position_of number old.wakers ≡ None)
      × (old.count ≤ length old.wakers) × (new ≡ old) × (back ≡ waker)

  abbrev pub without_entry : Option ℕ → Sleepers W → Sleepers W
  without_entry None s = s
  without_entry (Some at) s = record s { wakers = remove s.wakers at }

  -- the number is free, where one more sleeps than has a waker
  abbrev pub freed : ℕ → Sleepers W → Sleepers W
  freed number s = elim (nat_lt (length s.wakers) s.count) [
    | true ↦ record s { count = s.count - 1; free = s.free ++ number ∷ [] }
    | false ↦ s
  ]

  -- the entry of this number goes, if it is there, and the number is free
  abbrev pub woken_up : ℕ → Sleepers W → Sleepers W
  woken_up number s = freed number (without_entry (position_of number s.wakers) s)
