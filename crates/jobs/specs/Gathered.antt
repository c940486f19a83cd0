-- How often the jobs of a list came back, in lists of what came back.
use Rattle.std.specs.Prelude.{◌≡◌, ◌≢◌, ℕ, ◌<◌, ◌≤◌, Bool, true, false, ◌&&◌, nat_eq, List, Option, Some, None, Vec, length, slice_get, count_by, sum_by, vec_items}
use Rattle.std.specs.Global.{Global}
use Rattle.jobs.specs.declared.job.Job.{Job}
use Rattle.jobs.specs.declared.job.Job.TheVariants.{Sum, Mul}
use Rattle.jobs.specs.declared.job.Solved.{Solved}
use Rattle.jobs.specs.declared.results.Back.{Back}
use Rattle.jobs.specs.declared.results.Back.TheVariants.{Never, Once, Often}

-- whether both jobs are the same
abbrev pub same_job : Job → Job → Bool
same_job (Sum m) (Sum n) = nat_eq m n
same_job (Sum m) (Mul c d) = false
same_job (Mul a b) (Sum n) = false
same_job (Mul a b) (Mul c d) = nat_eq a c && nat_eq b d

-- whether this job is there
abbrev pub is_there : Option Job → Job → Bool
is_there None job = false
is_there (Some there) job = same_job there job

-- whether this is the job of this number, done
abbrev pub is_of : List Job → ℕ → Solved → Bool
is_of jobs number solved = nat_eq solved.number number && is_there (slice_get jobs number) solved.job

-- how often the job of this number came back, in all of these lists
abbrev pub times_back : List Job → List (Vec Solved Global) → ℕ → ℕ
times_back jobs returned number = sum_by (λ one. count_by (is_of jobs number) (vec_items one)) returned

-- each of the jobs came back once
abbrev pub EachCameOnce : List Job → List (Vec Solved Global) → Type 0
EachCameOnce jobs returned = (number : ℕ) → number < length jobs → times_back jobs returned number ≡ 1

-- the job of this number came back never or more than once, and each before it came back once
pub record IsLeastMissing (jobs : List Job) (returned : List (Vec Solved Global)) (number : ℕ) : Type 0 where
  pub within : number < length jobs
  pub missing : times_back jobs returned number ≢ 1
  pub before : (earlier : ℕ) → earlier < number → times_back jobs returned earlier ≡ 1

-- what is noted of a job that came back this often
abbrev pub Tells : Back → ℕ → Type 0
Tells Never times = times ≡ 0
Tells (Once answer) times = times ≡ 1
Tells Often times = 2 ≤ times

-- what is noted of each job, where it came back this often
abbrev pub AreCounts : List Back → (ℕ → ℕ) → Type 0
AreCounts backs times = (number : ℕ) (back : Back) → slice_get backs number ≡ Some back → Tells back (times number)
