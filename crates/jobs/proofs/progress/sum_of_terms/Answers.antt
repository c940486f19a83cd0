use Rattle.std.proofs.Common.{◌≡◌, ◌+◌, ap, arith}
use Rattle.jobs.specs.Answers.{sum_below}
use Rattle.jobs.proofs.Sums.{count_within, terms_between}
use Rattle.jobs.proofs.progress.sum_of_terms.Goals as goal

pub returns-clause-sum : goal.returns-clause-sum
returns-clause-sum c =
    let turned : sum_below (c.args.count + c.args.first) ≡ sum_below (c.args.first + c.args.count) = ap sum_below (omega arith) in
    omega (arith, turned, terms_between c.args.first c.args.count, count_within c.args.first c.args.count)
