-- What is written for an input that is a list of jobs.
use Rattle.std.specs.Prelude.{◌≡◌, ℕ, List, Vec, map}
use Rattle.std.specs.Global.{Global}
use Rattle.jobs.specs.Answers.{answer_of}
use Rattle.jobs.specs.declared.job.Job.{Job}
use Rattle.jobs.specs.declared.job.Solved.{Solved}
use Rattle.jobs.specs.Lines.{Says, IsFirstBadLine, answers_text}
use Rattle.jobs.specs.Coming.{CameBackUpTo}
use Rattle.commands.specs.declared.fault.Fault.{Fault}
use Rattle.commands.specs.declared.fault.Fault.TheVariants.{Missing, BadLine, Usage, NoMemory, NoThread, NoRandom, ReadFailed, WriteFailed}

-- the input is a list of jobs
abbrev pub SaysJobs : List ℕ → Type 0
SaysJobs input = (jobs : List Job) × Says input jobs

-- a line for the answer of each job of the input, in order
abbrev pub IsAnswerToJobs : List ℕ → List ℕ → Type 0
IsAnswerToJobs input text = (jobs : List Job) × Says input jobs × (text ≡ answers_text 0 (map answer_of jobs))

module _ {P : Type 0} (brings : P → Vec Solved Global → Type 0) (workers : ℕ) where
  -- the first job of the input that didn't come back once, of what so many threads of a place brought
  abbrev pub MissesJob : List ℕ → ℕ → Type 0
  MissesJob input number = (jobs : List Job) × Says input jobs × CameBackUpTo brings workers jobs number

  -- why an input of jobs is not answered
  abbrev pub IsFaultOf : List ℕ → Fault → Type 0
  IsFaultOf input (Missing number) = MissesJob input number
  IsFaultOf input (BadLine number) = IsFirstBadLine input number
  IsFaultOf input Usage = ⊥
  IsFaultOf input NoMemory = Unit {0}
  IsFaultOf input NoThread = Unit {0}
  IsFaultOf input NoRandom = ⊥
  IsFaultOf input ReadFailed = ⊥
  IsFaultOf input WriteFailed = ⊥
