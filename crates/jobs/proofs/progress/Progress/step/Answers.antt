use Rattle.std.proofs.Common.{◌≡◌, ◌≤◌, suc, sym, ap, ◌∙◌, arith}
use Rattle.jobs.specs.Answers.{answer_of}
use Rattle.jobs.specs.declared.job.Job.TheVariants.{Sum}
use Rattle.jobs.proofs.Sums.{answer_of_sum}
use Rattle.jobs.proofs.progress.Progress.step.Goals as goal

pub solved-requires-in-Sum : goal.solved-requires-in-Sum
solved-requires-in-Sum c =
    let last = c.in-Sum.last in
    let job : c.args.self.now.job ≡ Sum last = c.in-Sum.is in
    let in_range : last ≤ 1000000 = rw job at c.args.self.now.in_range in
    let no_further : c.args.self.now.sum.next ≤ suc last = rw job at c.args.self.now.no_further in
    let all : c.add_terms.new.self.next ≡ suc last = omega arith in
    answer_of_sum last c.add_terms.new.self.next c.add_terms.new.self.total in_range all c.add_terms.new.self.below ∙ sym (ap answer_of job)
