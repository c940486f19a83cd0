-- What the arguments ask for.
use Rattle.std.specs.Prelude.{◌≡◌, ℕ, ◌≤◌, List, [], ◌∷◌, Vec, codes}
use Rattle.std.specs.Global.{Global}
use Rattle.text_lines.specs.Number.{IsNumber}
use Rattle.simulator.specs.Answer.{IsAnswer, IsGoodInput}
use Rattle.script.specs.BadLine.{IsFirstBadLine}
use Rattle.jobs.specs.declared.job.Solved.{Solved}
use Rattle.jobs.specs.Lines as lines
use Rattle.commands.specs.Jobs.{IsAnswerToJobs, MissesJob, SaysJobs}
use Rattle.commands.specs.declared.words.Asked.{Asked}
use Rattle.commands.specs.declared.words.Asked.TheVariants.{Sim, Jobs}

-- the one word `sim`, or `jobs` and a number of 1 to 64
abbrev pub AskFor : List (List ℕ) → Asked → Type 0
AskFor words Sim = words ≡ codes "sim" ∷ []
AskFor words (Jobs workers) =
    (digits : List ℕ)
    × (words ≡ codes "jobs" ∷ digits ∷ [])
    × IsNumber digits workers
    × (1 ≤ workers)
    × (workers ≤ 64)

-- the input is one that is answered
abbrev pub IsGoodFor : Asked → List ℕ → Type 0
IsGoodFor Sim input = IsGoodInput input
IsGoodFor (Jobs workers) input = SaysJobs input

-- the text is the answer to the input
abbrev pub IsAnswerFor : Asked → List ℕ → List ℕ → Type 0
IsAnswerFor Sim input text = IsAnswer input text
IsAnswerFor (Jobs workers) input text = IsAnswerToJobs input text

-- the line of this number is the first of the input that is bad, and so the input is not one that is answered
abbrev pub IsBadFor : Asked → List ℕ → ℕ → Type 0
IsBadFor Sim input number = IsFirstBadLine input number × (¬ (IsGoodInput input))
IsBadFor (Jobs workers) input number = lines.IsFirstBadLine input number × (¬ (SaysJobs input))

-- the job of this number is the first that didn't come back once, of what the workers of a place brought
abbrev pub MissesFor : {P : Type 0} → (P → Vec Solved Global → Type 0) → Asked → List ℕ → ℕ → Type 0
MissesFor brings Sim input number = ⊥
MissesFor brings (Jobs workers) input number = MissesJob brings workers input number
