-- How a name lies in memory.
use Rattle.std.specs.Prelude.{◌≡◌, ◌-◌, ◌++◌, length, replicate, take}
use Rattle.script.specs.Name.{IsName}
use Rattle.script.specs.declared.name.Name.TheInside.{Inside}

-- the letters stand in front, and zeros after them
pub record IsPadded (inside : Inside) : Type 0 where
  pub name : IsName (take inside.len inside.letters)
  pub counted : length (take inside.len inside.letters) ≡ inside.len
  pub padded : take inside.len inside.letters ++ replicate (8 - inside.len) 0 ≡ inside.letters
