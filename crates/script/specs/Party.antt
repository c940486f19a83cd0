-- How a script names its parties.
use Rattle.std.specs.Prelude.{ℕ, ◌≤◌, List}
use Rattle.text_lines.specs.Number.{IsNumber}

-- a number from 1 to 9
pub record IsParty (word : List ℕ) (party : ℕ) : Type 0 where
  pub number : IsNumber word party
  pub some : 1 ≤ party
  pub few : party ≤ 9
