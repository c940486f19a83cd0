-- Which line of a text is the first that no script has there.
use Rattle.std.specs.Prelude.{ℕ, Bool, zero, suc, ◌<◌, List}
use Rattle.text_lines.specs.BadLine.{IsFirstBad}
use Rattle.script.specs.Script.{IsFirstLine, IsCommand, IsShort}
use Rattle.script.specs.declared.command.Command.{Command}

-- a line in the grammar of its place: the first says a limit and a kind, a later one a command
abbrev pub IsSpelled : ℕ → List ℕ → Type 0
IsSpelled zero line = (limit : ℕ) × (is_static : Bool) × IsFirstLine limit is_static line
IsSpelled (suc before) line = (command : Command) × IsCommand command line

-- a line is good behind this many lines
pub record IsGood (before : ℕ) (line : List ℕ) : Type 0 where
  pub within : before < 10000
  pub short : IsShort line
  pub spelled : IsSpelled before line

-- the lines before are good, and the line of this number, counted from 1, is not
abbrev pub IsFirstBadLine : List ℕ → ℕ → Type 0
IsFirstBadLine text number = IsFirstBad IsGood text number
