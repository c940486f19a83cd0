-- The names of the futures in the order of acceptance: a future's number is the place of its name.
use Rattle.std.specs.Prelude.{ℕ, List, Option, position}
use Rattle.std.specs.Str.{bytes_eq}

-- the number of the future of this name: the first place at which the name stands
abbrev pub number_of : List (List ℕ) → List ℕ → Option ℕ
number_of names name = position (λ other. bytes_eq other name) names
