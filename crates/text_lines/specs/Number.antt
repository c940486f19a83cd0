-- How numbers are written.
use Rattle.std.specs.Prelude.{◌≡◌, ℕ, ◌<◌, ◌≤◌, List, length, All}
use Rattle.std.specs.Char.{IsAsciiDigit}
use Rattle.std.specs.Str.Parse.{digits_value}

-- 1 to 20 decimal digits, the first of which may be zeros
pub record IsNumber (word : List ℕ) (number : ℕ) : Type 0 where
  pub some : 0 < length word
  pub few : length word ≤ 20
  pub digits : All IsAsciiDigit word
  pub value : digits_value 10 word ≡ number
