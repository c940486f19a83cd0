-- The first terms of 0 + 1 + .. added up.
use Rattle.std.proofs.Common.{◌≡◌, ℕ, zero, suc, ◌+◌, ◌*◌, ◌^◌, ◌<◌, ◌≤◌, ap, ◌∙◌, arith}
use Rattle.std.proofs.lemmas.Bool.Decides.{nat_tests}
use Rattle.jobs.specs.Answers.{sum_below, value_of, answer_of}
use Rattle.jobs.specs.declared.job.Job.TheVariants.{Sum}
use Rattle.jobs.specs.declared.job.Answer.TheVariants.{Value}

-- the terms of a sum of at most 1,000,001 are few
pub sum_below_few : (count : ℕ) → count ≤ 1000001 → sum_below count ≤ 1000001 * count
sum_below_few zero few = omega arith
sum_below_few (suc before) few = omega (arith, sum_below_few before (omega arith))

value_of-small : (number : ℕ) → number < 2 ^ 64 → Value number ≡ value_of number
value_of-small number small = grind (arith, nat_tests)

-- all terms of a sum are its answer
pub answer_of_sum : (last next total : ℕ) → last ≤ 1000000 → next ≡ suc last → total ≡ sum_below next → Value total ≡ answer_of (Sum last)
answer_of_sum last next total few all is =
    let same : total ≡ sum_below (suc last) = is ∙ ap sum_below all in
    let small : total < 2 ^ 64 = omega (arith, sum_below_few (suc last) (omega arith)) in
    value_of-small total small ∙ ap value_of same

-- twice the terms between, and their count, are the count by the first and the last
pub terms_between : (first count : ℕ) → 2 * sum_below (count + first) + count ≡ 2 * sum_below first + count * (2 * first + count)
terms_between first zero =
    let none : sum_below (zero + first) ≡ sum_below first = ap sum_below (omega arith) in
    omega (arith, none)
terms_between first (suc before) =
    let place : suc before + first ≡ suc (before + first) = omega arith in
    let one_more : sum_below (suc before + first) ≡ sum_below (before + first) + (before + first) = ap sum_below place in
    omega (arith, one_more, terms_between first before)

-- nothing is missing where the count is taken from that
pub count_within : (first count : ℕ) → count ≤ count * (2 * first + count)
count_within first zero = omega arith
count_within first (suc before) = omega arith
