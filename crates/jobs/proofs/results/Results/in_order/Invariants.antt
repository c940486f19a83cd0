use Rattle.jobs.proofs.Backs.{AreAnswered}
use Rattle.jobs.proofs.results.Results.in_order.Given as goal

abbrev pub invariant-loop-back : goal.invariant-loop-back
invariant-loop-back l = AreAnswered l.self.jobs.now l.self.backs.items l.back-index l.all.items
