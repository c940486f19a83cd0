-- What the name of a future is.
use Rattle.std.specs.Prelude.{ℕ, ◌<◌, ◌≤◌, List, length, All}
use Rattle.std.specs.Char.{IsAsciiLowercase}

-- 1 to 8 letters, each from a to z
pub record IsName (word : List ℕ) : Type 0 where
  pub some : 0 < length word
  pub few : length word ≤ 8
  pub letters : All IsAsciiLowercase word
