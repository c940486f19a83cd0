-- What is left in the places of a slot or a ring that was taken apart. From the place `at` on, and at the end again from
-- the first one, `left` places were not looked at yet.
use Rattle.std.specs.Prelude.{◌≡◌, ℕ, zero, suc, ◌+◌, ◌<◌, ◌≤◌, ◌⊎◌, ◌==◌, if◌then◌else◌, Bool, true, false, List, [], ◌∷◌, ◌++◌, length}
use Rattle.std.specs.Prelude.{slice_index_or, Option, Some, None, option_to_list}

-- a place that was looked at has nothing any more
pub record AreLeft (filled : List Bool) (at left : ℕ) : Type 0 where
  pub inside : at < length filled
  pub few : left ≤ length filled
  pub ahead : (k : ℕ) → k < length filled → ((at ≤ k) × (k < at + left)) ⊎ (k + length filled < at + left)
      → slice_index_or filled k false ≡ true
  pub behind : (k : ℕ) → k < length filled → (at ≤ k → at + left ≤ k) → at + left ≤ k + length filled
      → slice_index_or filled k false ≡ false

module _ {T : Type 0} where
  -- the items of this many places from this one on, of n in all
  abbrev pub items_from : List (Option T) → ℕ → ℕ → ℕ → List T
  items_from places n at zero = []
  items_from places n at (suc left) =
      option_to_list (slice_index_or places at None) ++ items_from places n (if at + 1 == n then 0 else at + 1) left

  -- the first item is given, or there is none
  abbrev pub GivesFirst : List T → Option T → List T → Type 0
  GivesFirst old None new = (old ≡ []) × (new ≡ [])
  GivesFirst old (Some x) new = old ≡ x ∷ new
