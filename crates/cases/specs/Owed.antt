-- What is owed for a script, and what a player shows.
use Rattle.std.specs.Prelude.{◌≡◌, ℕ, List}
use Rattle.script.specs.BadLine.{IsFirstBadLine}
use Rattle.simulator.specs.Answer.{IsAnswer}
use Rattle.cases.specs.declared.shown.Shown.{Shown}
use Rattle.cases.specs.declared.shown.Shown.TheVariants.{Text, BadLine}

-- this is what is owed, where the text and the first bad line (0 for none) are
abbrev pub Meets : List ℕ → ℕ → Shown → Type 0
Meets text bad_line (Text shown) = (bad_line ≡ 0) × (shown.items ≡ text)
Meets text bad_line (BadLine number) = number ≡ bad_line

-- the machine's answer to a script is this text, or this line is its first bad one
abbrev pub IsShown : List ℕ → Shown → Type 0
IsShown script (Text shown) = IsAnswer script shown.items
IsShown script (BadLine number) = IsFirstBadLine script number
