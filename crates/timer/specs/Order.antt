-- Which sleeper is due when, and in which order.
use Rattle.std.specs.Prelude.{◌≡◌, ◌+◌, ◌-◌, ◌^◌, ◌≤◌, ◌<◌, ◌==◌, not, nat_lt, cond, ℕ, List, [], ◌∷◌, All, IsPermutation, drop}
use Rattle.std.specs.Prelude.{slice_index_or, slice_set, ⊤}
use Rattle.std.specs.List.{filter}
use Rattle.timer.specs.declared.agenda.Agenda.{Agenda}
use Rattle.timer.specs.declared.agenda.Turn.{Turn}
use Rattle.timer.specs.declared.agenda.Turn.TheVariants as turn

-- the time of a place at which nobody sleeps: each sleeper is due before it
abbrev pub never : ℕ
never = 2 ^ 128 - 1

-- when each is due, with its place, for times that stand at the places from this one on
abbrev pub standing_from : ℕ → List ℕ → List (ℕ × ℕ)
standing_from place [] = []
standing_from place (time ∷ rest) =
    cond (nat_lt time never) ((time, place) ∷ standing_from (place + 1) rest) (standing_from (place + 1) rest)

-- the time of each place
abbrev pub times : Agenda → List ℕ
times agenda = drop agenda.room agenda.nodes.items

-- the time of this place
abbrev pub time_of : List ℕ → ℕ → ℕ
time_of times place = slice_index_or times place never

-- when each is due, with its place
abbrev pub entries : Agenda → List (ℕ × ℕ)
entries agenda = standing_from 0 (times agenda)

-- the sleeper at this place was due by now, nobody was due before it, and it stands there no more
pub record IsDue (now place : ℕ) (old new : List (ℕ × ℕ)) : Type 0 where
  pub due : ℕ
  pub in_time : due ≤ now
  pub first : All (λ other. due ≤ other.0) old
  pub gone : IsPermutation old ((due, place) ∷ new)

-- whose turn it is now: that of one that is due; nobody's before some time has passed, and nobody goes; nobody's, as nobody is
-- there
abbrev pub Turns : ℕ → List (ℕ × ℕ) → List (ℕ × ℕ) → Turn → Type 0
Turns now old new (turn.Of place) = IsDue now place old new
Turns now old new (turn.In rest) = All (λ other. now + rest ≤ other.0) old × (0 < rest) × (new ≡ old)
Turns now old new turn.Nobodys = (old ≡ []) × (new ≡ old)

-- whose time is removed by a turn: that of the one whose turn it is
abbrev pub TimeGoes : List ℕ → List ℕ → Turn → Type 0
TimeGoes old new (turn.Of place) = new ≡ slice_set old place never
TimeGoes old new (turn.In rest) = new ≡ old
TimeGoes old new turn.Nobodys = new ≡ old

-- the time of the next sleeper is one that a duration can express
abbrev pub IsKnown : ℕ → Turn → Type 0
IsKnown now (turn.Of place) = ⊤
IsKnown now (turn.In rest) = now + rest < never
IsKnown now turn.Nobodys = ⊤

-- all stay except those at this place
abbrev pub Stay : ℕ → List (ℕ × ℕ) → List (ℕ × ℕ) → Type 0
Stay place old new = IsPermutation (filter (λ other. not (other.1 == place)) old) new
