use Rattle.std.proofs.Common.{◌≡◌, ℕ, ◌+◌, ◌∙◌, refl, arith}
use Rattle.jobs.specs.Gathered.{times_back}
use Rattle.std.proofs.Common.{take}
use Rattle.jobs.proofs.Gathering.{AreCounts-all, AreCounts-next_list}
use Rattle.jobs.proofs.gathered.note_all.Goals as goal

pub loop-solved-init : goal.loop-solved-init
loop-solved-init c = record {
  jobs = refl;
  counted = λ times counts. AreCounts-all c.args.results.now.backs.items times (λ number. times number + 0) (λ number. omega arith) counts;
}

pub loop-solved-preserved : goal.loop-solved-preserved
loop-solved-preserved c =
    let was = c.loop-solved.results in let index = c.loop-solved.solved-index in
    record {
      jobs = c.note_each.ensures.jobs ∙ c.loop-solved.invariant.jobs;
      counted = λ times counts. AreCounts-next_list c.args.results.now.jobs.now was.jobs.now c.note_each.new.results.backs.items times c.args.returned.now index c.solved-item.result c.deref.result.now c.loop-solved.invariant.jobs (omega arith) c.solved-item.is c.deref.ensures.value (c.note_each.ensures.counted (λ number. times number + times_back c.args.results.now.jobs.now (take index c.args.returned.now) number) (c.loop-solved.invariant.counted times counts));
    }
