-- No text says two lists of jobs.
use Rattle.std.proofs.Common.{◌≡◌, ℕ, List, ap, arith}
use Rattle.text_lines.specs.Lines.{lines_of, words_of}
use Rattle.text_lines.proofs.One.{IsNumber-one, AllZip-one}
use Rattle.jobs.specs.declared.job.Job.{Job}
use Rattle.jobs.specs.declared.job.Job.TheVariants.{Sum, Mul}
use Rattle.jobs.specs.Lines.{IsSpelled, Spells, Says}

IsSpelled-one : (job other : Job) (words : List (List ℕ)) → IsSpelled job words → IsSpelled other words → job ≡ other
IsSpelled-one (Sum m) (Sum n) words p q =
    let digits : p.0 ≡ q.0 = cc in
    ap Sum (IsNumber-one p.0 q.0 m n digits p.2 q.2)
IsSpelled-one (Mul a b) (Mul c d) words p q =
    let lefts : p.0 ≡ q.0 = cc in
    let rights : p.1 ≡ q.1 = cc in
    let left : a ≡ c = IsNumber-one p.0 q.0 a c lefts p.3 q.3 in
    let right : b ≡ d = IsNumber-one p.1 q.1 b d rights p.4 q.4 in
    cc
IsSpelled-one (Sum m) (Mul c d) words p q = grind arith
IsSpelled-one (Mul a b) (Sum n) words p q = grind arith

-- a text says at most one list of jobs
pub Says-one : (text : List ℕ) (jobs others : List Job) → Says text jobs → Says text others → jobs ≡ others
Says-one text jobs others p q =
    AllZip-one Spells (λ x y line. IsSpelled-one x y (words_of line)) jobs others (lines_of text) p.each q.each
