use Rattle.std.proofs.Common.{◌≡◌, ℕ, ◌+◌, ◌∙◌, length, ap, arith}
use Rattle.std.proofs.lemmas.Result.{IfOk-weaker}
use Rattle.jobs.specs.Gathered.{AreCounts, times_back}
use Rattle.jobs.proofs.Gathering.{AreCounts-never, each_came_once, least_missing}
use Rattle.jobs.proofs.gathered.gather.Goals as goal

pub returns-clause-once : goal.returns-clause-once
returns-clause-once c =
    let first = c.in-Ok.results in let noted = c.note_all.new.results in let jobs = c.args.jobs.now in
    let same = c.in-Ok.ensures.jobs in
    let counts : AreCounts noted.backs.items (λ number. 0 + times_back first.jobs.now c.args.returned.now number) =
    c.note_all.ensures.counted (λ number. 0) (AreCounts-never first.backs.items (length jobs) (first.all ∙ ap length same) c.in-Ok.ensures.none) in
    IfOk-weaker c.in_order.result _ _ (λ answers back. each_came_once jobs first.jobs.now noted.jobs.now noted.backs.items c.args.returned.now same (c.note_all.ensures.jobs ∙ same) counts back) c.in_order.ensures.once

pub returns-clause-missing : goal.returns-clause-missing
returns-clause-missing c = λ number is.
    let first = c.in-Ok.results in let noted = c.note_all.new.results in let jobs = c.args.jobs.now in
    let same = c.in-Ok.ensures.jobs in
    let counts : AreCounts noted.backs.items (λ n. 0 + times_back first.jobs.now c.args.returned.now n) =
    c.note_all.ensures.counted (λ n. 0) (AreCounts-never first.backs.items (length jobs) (first.all ∙ ap length same) c.in-Ok.ensures.none) in
    least_missing jobs first.jobs.now noted.jobs.now noted.backs.items c.args.returned.now number same (c.note_all.ensures.jobs ∙ same) noted.all counts (c.in_order.ensures.missing number is)
