-- What a job comes to.
use Rattle.std.specs.Prelude.{ℕ, zero, suc, ◌+◌, ◌*◌, ◌^◌, ◌≤◌, if◌then◌else◌, nat_lt}
use Rattle.jobs.specs.declared.job.Job.{Job}
use Rattle.jobs.specs.declared.job.Job.TheVariants.{Sum, Mul}
use Rattle.jobs.specs.declared.job.Answer.{Answer}
use Rattle.jobs.specs.declared.job.Answer.TheVariants.{Value, TooLarge}

-- 0 + 1 + .. + (count - 1)
abbrev pub sum_below : ℕ → ℕ
sum_below zero = 0
sum_below (suc before) = sum_below before + before

-- a number, where it is a u64
abbrev pub value_of : ℕ → Answer
value_of number = if nat_lt number (2 ^ 64) then Value number else TooLarge

-- 0 + 1 + .. + n, or a times b, or too large for a u64
abbrev pub answer_of : Job → Answer
answer_of (Sum n) = value_of (sum_below (suc n))
answer_of (Mul a b) = value_of (a * b)

-- the n of a sum
abbrev pub last_of : Job → ℕ
last_of (Sum n) = n
last_of (Mul a b) = 0

-- the n of a sum is at most 1,000,000
abbrev pub IsInRange : Job → Type 0
IsInRange job = last_of job ≤ 1000000

-- how many terms a sum has; a product has none
abbrev pub terms_of : Job → ℕ
terms_of (Sum n) = suc n
terms_of (Mul a b) = 0
