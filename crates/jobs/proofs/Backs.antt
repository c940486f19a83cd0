-- What came back of a list of jobs, from the first on.
use Rattle.std.proofs.Common.{◌≡◌, ℕ, suc, ◌+◌, ◌<◌, ◌≤◌, List, [], ◌∷◌, ◌++◌, Some, map, take, get_or, length, slice_get, refl, ap, ◌∙◌, below_more, length-append, add-one, arith}
use Rattle.std.specs.Prelude.{replicate}
use Rattle.std.proofs.Math.Seq.{take-suc}
use Rattle.std.proofs.lemmas.List.{get_or-replicate, length-replicate, map-append, take_all}
use Rattle.std.proofs.lemmas.Option.{slice_get-get_or, slice_get_within}
use Rattle.jobs.specs.Answers.{answer_of}
use Rattle.jobs.specs.Results.{AreRight, IsBack}
use Rattle.jobs.specs.declared.job.Job.{Job}
use Rattle.jobs.specs.declared.job.Job.TheVariants.{Sum}
use Rattle.jobs.specs.declared.job.Answer.{Answer}
use Rattle.jobs.specs.declared.results.Back.{Back}
use Rattle.jobs.specs.declared.results.Back.TheVariants.{Never, Once}

-- the jobs before this place came back once each, with these answers
pub record AreAnswered (jobs : List Job) (backs : List Back) (index : ℕ) (answers : List Answer) : Type 0 where
  pub counted : length answers ≡ index
  pub back : (k : ℕ) → k < index → IsBack backs k
  pub right : answers ≡ map answer_of (take index jobs)

-- one more of them did
pub AreAnswered-push : (jobs : List Job) (backs : List Back) (index : ℕ) (answers : List Answer) (answer : Answer) → AreRight jobs backs → length backs ≡ length jobs → AreAnswered jobs backs index answers → slice_get backs index ≡ Some (Once answer) → AreAnswered jobs backs (index + 1) (answers ++ answer ∷ [])
AreAnswered-push jobs backs index answers answer all_right all so_far here =
    let within : index < length jobs = omega (arith, slice_get_within backs index (Once answer) here) in
    let job : Job = get_or jobs index (Sum 0) in
    let right : answer ≡ answer_of job = all_right index job answer (slice_get-get_or jobs index (Sum 0) within) here in
    let more : take (suc index) jobs ≡ take index jobs ++ (job ∷ []) = take-suc jobs index (Sum 0) within in
    record {
      counted = omega (arith, length-append answers (answer ∷ []), so_far.counted);
      back = below_more (IsBack backs) index so_far.back (answer, here);
      right = rw (add-one, more, map-append, ← so_far.right, ← right) refl;
    }

-- each of them did
pub AreAnswered-all : (jobs : List Job) (backs : List Back) (index : ℕ) (answers : List Answer) → length jobs ≤ index → AreAnswered jobs backs index answers → answers ≡ map answer_of jobs
AreAnswered-all jobs backs index answers all so_far = so_far.right ∙ ap (map answer_of) (take_all index jobs all)

-- for none of them anything came back
pub never : (count number : ℕ) → number < count → slice_get (replicate count Never) number ≡ Some Never
never count number within =
    slice_get-get_or (replicate count Never) number Never (rw length-replicate within) ∙ ap Some (get_or-replicate count number Never Never within)

pub AreRight-never : (jobs : List Job) (count : ℕ) → AreRight jobs (replicate count Never)
AreRight-never jobs count = λ number job answer of_job here.
    let within : number < count = omega (arith, slice_get_within (replicate count Never) number (Once answer) here, length-replicate count Never) in
    let none = never count number within in
    cc
