-- How a list of jobs is written, and how their answers are.
use Rattle.std.specs.Prelude.{◌≡◌, ℕ, suc, ◌^◌, ◌<◌, ◌≤◌, List, [], ◌∷◌, ◌++◌, length, All, codes}
use Rattle.std.specs.List.{AllZip}
use Rattle.std.specs.Fmt.{decimal}
use Rattle.text_lines.specs.Lines.{lines_of, words_of}
use Rattle.text_lines.specs.Number.{IsNumber}
use Rattle.text_lines.specs.BadLine.{IsFirstBad}
use Rattle.jobs.specs.declared.job.Job.{Job}
use Rattle.jobs.specs.declared.job.Job.TheVariants.{Sum, Mul}
use Rattle.jobs.specs.declared.job.Answer.{Answer}
use Rattle.jobs.specs.declared.job.Answer.TheVariants.{Value, TooLarge}

-- `sum <n>`, where n is at most 1,000,000, or `mul <a> <b>`, where each is a u64
abbrev pub IsSpelled : Job → List (List ℕ) → Type 0
IsSpelled (Sum n) words =
    (digits : List ℕ)
    × (words ≡ codes "sum" ∷ digits ∷ [])
    × IsNumber digits n
    × (n ≤ 1000000)
IsSpelled (Mul a b) words =
    (left right : List ℕ)
    × (words ≡ codes "mul" ∷ left ∷ right ∷ [])
    × IsNumber left a
    × IsNumber right b
    × (a < 2 ^ 64)
    × (b < 2 ^ 64)

-- a line says a job
abbrev pub Spells : Job → List ℕ → Type 0
Spells job line = IsSpelled job (words_of line)

-- a line has at most 256 bytes
abbrev pub IsShort : List ℕ → Type 0
IsShort line = length line ≤ 256

-- the text says these jobs, one a line, in at most 100,000 lines
pub record Says (text : List ℕ) (jobs : List Job) : Type 0 where
  pub each : AllZip Spells jobs (lines_of text)
  pub short : All IsShort (lines_of text)
  pub few : length (lines_of text) ≤ 100000

-- a line says a job after this many others
pub record IsGood (before : ℕ) (line : List ℕ) : Type 0 where
  pub within : before < 100000
  pub short : IsShort line
  pub job : Job
  pub spelled : Spells job line

-- the lines before are good, and the line of this number, counted from 1, is not
abbrev pub IsFirstBadLine : List ℕ → ℕ → Type 0
IsFirstBadLine text number = IsFirstBad IsGood text number

-- `<answer>`
abbrev pub answer_text : Answer → List ℕ
answer_text (Value value) = decimal value
answer_text TooLarge = codes "too large"

-- `<number> <answer>`
abbrev pub line_text : ℕ → Answer → List ℕ
line_text number answer = decimal number ++ codes " " ++ answer_text answer ++ codes "\n"

-- a line for each answer, in order, numbered from this number
abbrev pub answers_text : ℕ → List Answer → List ℕ
answers_text number [] = []
answers_text number (answer ∷ answers) = line_text number answer ++ answers_text (suc number) answers
