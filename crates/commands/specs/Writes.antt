-- What the program writes for what it read.
use Rattle.std.specs.Prelude.{ℕ, List, Option}
use Rattle.std.specs.Io.KnownBytes.{Appends}
use Rattle.simulator.specs.Answer.{IsAnswer}
use Rattle.commands.specs.Asked.{IsAnswerFor}
use Rattle.commands.specs.Jobs.{IsAnswerToJobs}
use Rattle.commands.specs.declared.words.Asked.{Asked}

-- the answer to the script that was read was written behind the other bytes
abbrev pub WritesAnswer : List ℕ → Option (List ℕ) → Option (List ℕ) → Type 0
WritesAnswer input old new = (text : List ℕ) × IsAnswer input text × Appends old new text

-- the answers of the jobs that were read were written behind the other bytes
abbrev pub WritesAnswers : List ℕ → Option (List ℕ) → Option (List ℕ) → Type 0
WritesAnswers input old new = (text : List ℕ) × IsAnswerToJobs input text × Appends old new text

-- the answer that was asked for was written behind the other bytes
abbrev pub WritesFor : Asked → List ℕ → Option (List ℕ) → Option (List ℕ) → Type 0
WritesFor asked input old new = (text : List ℕ) × IsAnswerFor asked input text × Appends old new text
