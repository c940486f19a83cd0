-- Which jobs of a list came back, and with what.
use Rattle.std.specs.Prelude.{◌≡◌, ℕ, ◌<◌, List, Some, length, slice_get}
use Rattle.jobs.specs.Answers.{answer_of}
use Rattle.jobs.specs.declared.job.Job.{Job}
use Rattle.jobs.specs.declared.job.Answer.{Answer}
use Rattle.jobs.specs.declared.results.Back.{Back}
use Rattle.jobs.specs.declared.results.Back.TheVariants.{Never, Once, Often}

-- how often a job came back, where it does once more
abbrev pub once_more : Answer → Back → Back
once_more answer Never = Once answer
once_more answer (Once before) = Often
once_more answer Often = Often

-- a job that came back once did so with its right answer
abbrev pub AreRight : List Job → List Back → Type 0
AreRight jobs backs =
    (number : ℕ) (job : Job) (answer : Answer)
    → slice_get jobs number ≡ Some job → slice_get backs number ≡ Some (Once answer) → answer ≡ answer_of job

-- the job of this number came back once
abbrev pub IsBack : List Back → ℕ → Type 0
IsBack backs number = (answer : Answer) × (slice_get backs number ≡ Some (Once answer))

-- the job of this number didn't come back, or not once alone, and each before it came back once
pub record IsFirstMissing (backs : List Back) (number : ℕ) : Type 0 where
  pub within : number < length backs
  pub missing : ¬ (IsBack backs number)
  pub before : (earlier : ℕ) → earlier < number → IsBack backs earlier
