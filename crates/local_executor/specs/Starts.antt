-- Where a run's walks start.
use Rattle.std.specs.Prelude.{ℕ, List, Bool, true, false}
use Rattle.rand_xoshiro.specs.SplitMix64.{splitmix_seed}
use Rattle.rand_xoshiro.specs.Xoshiro256.{of_seed, plus_plus}
use Rattle.local_executor.specs.declared.starts.Starts.{Starts}

-- the state of a Xoshiro256++ generator that was made of this number
unfoldable pub seeded : ℕ → List ℕ
seeded seed = of_seed (splitmix_seed 32 seed)

-- the generator's next word is drawn
abbrev pub drawn : List ℕ → Starts
drawn words = record { words = (plus_plus words).1; next = (plus_plus words).0 }

-- each walk uses up one
abbrev pub used_up : Bool → Starts → Starts
used_up true starts = drawn starts.words
used_up false starts = starts
