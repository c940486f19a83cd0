-- A text says jobs that are in range, and few.
use Rattle.std.proofs.Common.{ℕ, ◌≤◌, List, [], ◌∷◌, length, All, arith}
use Rattle.std.specs.List.{AllZip}
use Rattle.std.proofs.lemmas.List.Elements.{All-cons}
use Rattle.std.proofs.lemmas.Slice.Zip.{AllZip-long}
use Rattle.text_lines.specs.Lines.{lines_of}
use Rattle.jobs.specs.Answers.{IsInRange}
use Rattle.jobs.specs.declared.job.Job.{Job}
use Rattle.jobs.specs.declared.job.Job.TheVariants.{Sum, Mul}
use Rattle.jobs.specs.Lines.{Says, Spells}

in_range : (job : Job) (line : List ℕ) → Spells job line → IsInRange job
in_range (Sum n) line (digits, words, number, few) = few
in_range (Mul a b) line spelled = omega arith

all_in_range : (jobs : List Job) (lines : List (List ℕ)) → AllZip Spells jobs lines → All IsInRange jobs
all_in_range [] lines each = λ k d within. absurd (omega arith)
all_in_range (job ∷ jobs) [] each = absurd each
all_in_range (job ∷ jobs) (line ∷ lines) each = All-cons IsInRange job jobs (in_range job line each.0) (all_in_range jobs lines each.1)

pub says_in_range : (text : List ℕ) (jobs : List Job) → Says text jobs → All IsInRange jobs
says_in_range text jobs says = all_in_range jobs (lines_of text) says.each

pub says_few : (text : List ℕ) (jobs : List Job) → Says text jobs → length jobs ≤ 100000
says_few text jobs says = omega (arith, AllZip-long Spells jobs (lines_of text) says.each, says.few)
