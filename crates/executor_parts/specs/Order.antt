-- What a contract sees of an `Order`, and how its links lie.
use Rattle.std.specs.Prelude.{◌≡◌, ◌⊎◌, ℕ, zero, suc, ◌+◌, ◌-◌, ◌<◌, ◌==◌, true, false, List, [], ◌∷◌, length, slice_index_or}
use Rattle.executor_parts.specs.declared.order.Link.{Link}

pub record Order : Type 0 where
  -- in the order in which they came
  pub keys : List ℕ
  -- keys below this number may come without memory
  pub room : ℕ

-- the key is one of these
abbrev pub IsIn : ℕ → List ℕ → Type 0
IsIn key [] = ⊥
IsIn key (first ∷ rest) = (first ≡ key) ⊎ IsIn key rest

-- without the first that is this key, if there is one
abbrev pub without : ℕ → List ℕ → List ℕ
without key [] = []
without key (first ∷ rest) = elim (key == first) [ true ↦ rest | false ↦ first ∷ without key rest ]

-- no key is there twice
abbrev pub IsApart : List ℕ → Type 0
IsApart [] = Unit {0}
IsApart (first ∷ rest) = (¬ IsIn first rest) × IsApart rest

-- each of these is below this number
abbrev pub AllBelow : ℕ → List ℕ → Type 0
AllBelow n keys = (key : ℕ) → IsIn key keys → key + 1 < n

-- what a read past the links gives
abbrev pub no_link : Link
no_link = record { previous = 0; next = 0 }

abbrev pub next_of : List Link → ℕ → ℕ
next_of links at = (slice_index_or links at no_link).next

abbrev pub previous_of : List Link → ℕ → ℕ
previous_of links at = (slice_index_or links at no_link).previous

-- so many keys, read off the links after a place
abbrev pub walk : (ℕ → ℕ) → ℕ → ℕ → List ℕ
walk next zero from = []
walk next (suc count) from = (next from - 1) ∷ walk next count (next from)

-- the links lead from one place through these keys to the other place, and back
abbrev pub IsChain : (ℕ → ℕ) → (ℕ → ℕ) → ℕ → List ℕ → ℕ → Type 0
IsChain next previous from [] to = (next from ≡ to) × (previous to ≡ from)
IsChain next previous from (key ∷ keys) to = (next from ≡ key + 1) × (previous (key + 1) ≡ from) × IsChain next previous (key + 1) keys to

-- the keys of this many links
abbrev pub keys_of : List Link → ℕ → List ℕ
keys_of links len = walk (next_of links) len 0

-- they lie on a ring through place 0, each once, and each has a link
pub record IsRing (links : List Link) (keys : List ℕ) : Type 0 where
  pub chained : IsChain (next_of links) (previous_of links) 0 keys 0
  pub apart : IsApart keys
  pub within : AllBelow (length links) keys

-- the new links lead from this place to that one, and from every other place where the old ones do
pub record Joins (old new : ℕ → ℕ) (from to : ℕ) : Type 0 where
  pub here : new from ≡ to
  pub others : (at : ℕ) → (at ≡ from → ⊥) → new at ≡ old at

-- the neighbours of the place lead to each other
pub record Skips (old new : List Link) (at : ℕ) : Type 0 where
  pub next : Joins (next_of old) (next_of new) (previous_of old at) (next_of old at)
  pub previous : Joins (previous_of old) (previous_of new) (next_of old at) (previous_of old at)

-- a place comes between the last one and place 0
pub record Inserts (old new : List Link) (at : ℕ) : Type 0 where
  pub into : next_of new (previous_of old 0) ≡ at
  pub out : next_of new at ≡ 0
  pub back_into : previous_of new 0 ≡ at
  pub back_out : previous_of new at ≡ previous_of old 0
  pub nexts : (other : ℕ) → (other ≡ previous_of old 0 → ⊥) → (other ≡ at → ⊥) → next_of new other ≡ next_of old other
  pub previouses : (other : ℕ) → (other ≡ 0 → ⊥) → (other ≡ at → ⊥) → previous_of new other ≡ previous_of old other
