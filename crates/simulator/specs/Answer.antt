-- What is written for an input: for a script its text, and nothing for an input of no lines.
-- No other input is answered.
use Rattle.std.specs.Prelude.{◌≡◌, ◌⊎◌, ℕ, Bool, List, []}
use Rattle.script.specs.BadLine.{IsFirstBadLine}
use Rattle.script.specs.Script.{IsScript}
use Rattle.script.specs.declared.command.Command.{Command}
use Rattle.text_lines.specs.declared.error.ParseError.{ParseError}
use Rattle.text_lines.specs.declared.error.ParseError.TheVariants.{BadLine, NoMemory}
use Rattle.simulator.specs.ScriptText.{IsTextOf}

-- the input has no line, or is a script
abbrev pub IsGoodInput : List ℕ → Type 0
IsGoodInput input =
    (input ≡ [])
    ⊎ ((limit : ℕ) × (is_static : Bool) × (commands : List Command) × IsScript input limit is_static commands)

pub record IsAnswer (input text : List ℕ) : Type 0 where
  pub good : IsGoodInput input
  pub of_nothing : input ≡ [] → text ≡ []
  pub of_script : (limit : ℕ) (is_static : Bool) (commands : List Command)
      → IsScript input limit is_static commands → IsTextOf limit is_static commands text

-- why an input is not answered: its first bad line, or a want of memory
abbrev pub IsErrorOf : List ℕ → ParseError → Type 0
IsErrorOf input (BadLine number) = IsFirstBadLine input number
IsErrorOf input NoMemory = Unit {0}
