-- Which texts are scripts, and of what.
use Rattle.std.specs.Prelude.{◌≡◌, ℕ, ◌≤◌, Bool, true, false, List, [], ◌∷◌, length, All, codes}
use Rattle.std.specs.List.{AllZip}
use Rattle.text_lines.specs.Lines.{lines_of, words_of}
use Rattle.text_lines.specs.Number.{IsNumber}
use Rattle.script.specs.Command.{Spells}
use Rattle.script.specs.declared.command.Command.{Command}

-- the words behind the limit, by whether the executor is static
abbrev pub kind_words : Bool → List (List ℕ)
kind_words true = codes "static" ∷ []
kind_words false = []

-- the first line says how many futures the executor has places for, and whether it is static: `limit <n>` or
-- `limit <n> static`
abbrev pub IsFirstLine : ℕ → Bool → List ℕ → Type 0
IsFirstLine limit is_static line =
    (digits : List ℕ)
    × (words_of line ≡ codes "limit" ∷ digits ∷ kind_words is_static)
    × IsNumber digits limit
    × (1 ≤ limit)
    × (limit ≤ 1000000)

-- every later line is a command
abbrev pub IsCommand : Command → List ℕ → Type 0
IsCommand command line = Spells command (words_of line)

-- the first line says limit and kind, and each later one its command
abbrev pub Says : ℕ → Bool → List Command → List (List ℕ) → Type 0
Says limit is_static commands [] = ⊥
Says limit is_static commands (first ∷ later) = IsFirstLine limit is_static first × AllZip IsCommand commands later

-- a line has at most 256 bytes
abbrev pub IsShort : List ℕ → Type 0
IsShort line = length line ≤ 256

-- the text is a script with this limit, this kind and these commands, in at most 10,000 lines
pub record IsScript (text : List ℕ) (limit : ℕ) (is_static : Bool) (commands : List Command) : Type 0 where
  pub says : Says limit is_static commands (lines_of text)
  pub short : All IsShort (lines_of text)
  pub few : length (lines_of text) ≤ 10000
