-- A tree of times in one list.
use Rattle.std.specs.Prelude.{◌≡◌, ◌+◌, ◌<◌, ℕ, List, length, min, slice_index}

-- this node has the lesser of the two below it
abbrev pub HasLesser : List ℕ → ℕ → Type 0
HasLesser nodes i = slice_index nodes i ≡ min (slice_index nodes (i + i)) (slice_index nodes (i + i + 1))

-- the upper half are nodes, each with the lesser of the two below it, and the lower half are leaves
pub record IsTree (room : ℕ) (nodes : List ℕ) : Type 0 where
  pub size : length nodes ≡ room + room
  pub lesser : (i : ℕ) → 0 < i → i < room → HasLesser nodes i
