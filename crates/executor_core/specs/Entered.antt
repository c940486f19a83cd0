-- What a contract sees of the entries of the machine's futures, and how they lie.
use Rattle.std.specs.Prelude.{◌≡◌, ℕ, suc, ◌<◌, ◌≤◌, Bool, true, false, List, [], ◌∷◌}
use Rattle.std.specs.Prelude.{length, map, slice_get, Option, Some, None}
use Rattle.executor_parts.specs.Places.{Entry, place_of}
use Rattle.executor_parts.specs.declared.places.EntryPlace.{EntryPlace}
use Rattle.executor_parts.specs.declared.places.Vacancy.{Vacancy}
use Rattle.executor_parts.specs.declared.places.SpawnRefused.{SpawnRefused}
use Rattle.executor_parts.specs.declared.places.SpawnRefused.TheVariants.{Full, NoMemory}
use Rattle.executor_core.specs.declared.table.entries.Seat.{Seat}

pub record Entered : Type 0 where
  -- the futures that have an entry in the table, in the order of acceptance
  pub table : List ℕ
  -- those that the executor's drop has taken out, in that order
  pub leaving : List ℕ
  -- those of the table whose future is there, in that order
  pub present : List ℕ
  -- of each future that was accepted: it is in its place
  pub inside : List Bool
  -- at most so many have an entry
  pub limit : ℕ
  -- where the next one enters
  pub next : EntryPlace
  -- one more future may enter without memory
  pub has_room : Bool

-- one more may enter here, below the limit and without memory
pub record IsVacancy (v : Vacancy) (s : Entered) : Type 0 where
  pub place : v.place ≡ s.next
  pub below : length s.table < s.limit
  pub room : s.has_room ≡ true

-- why no more may enter: the limit is tested first, and memory is refused only where there was no room
abbrev pub IsRefusal : Entered → SpawnRefused → Type 0
IsRefusal s Full = s.limit ≤ length s.table
IsRefusal s NoMemory = (length s.table < s.limit) × (s.has_room ≡ false)

abbrev pub place_by : Option Seat → Option EntryPlace
place_by None = None
place_by (Some seat) = Some seat.place

-- the place of the entry that a future has or had
abbrev pub place_in : List Seat → ℕ → Option EntryPlace
place_in seats f = place_by (slice_get seats f)

-- each of these entries is where the seat of its future says, and its waker is the number of that future
abbrev pub AreSeated : {F : Type 0} → List Seat → List (Entry F ℕ) → Type 0
AreSeated seats [] = Unit {0}
AreSeated seats (e ∷ es) = (place_in seats e.waker ≡ Some (place_of e)) × AreSeated seats es

-- each is at least n, and above those before it
abbrev pub IsRising : ℕ → List ℕ → Type 0
IsRising n [] = Unit {0}
IsRising n (x ∷ xs) = (n ≤ x) × IsRising (suc x) xs

-- the futures of these entries
abbrev pub futures_of : {F : Type 0} → List (Entry F ℕ) → List ℕ
futures_of es = map (λ e. e.waker) es

-- before these, where its future is there
abbrev pub present_by : {F : Type 0} → Option F → ℕ → List ℕ → List ℕ
present_by None f rest = rest
present_by (Some future) f rest = f ∷ rest

-- those of these entries whose future is there
abbrev pub present_of : {F : Type 0} → List (Entry F ℕ) → List ℕ
present_of [] = []
present_of (e ∷ es) = present_by e.future e.waker (present_of es)
