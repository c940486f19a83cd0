use Rattle.std.proofs.Common.{◌≡◌, ℕ, ◌+◌, ◌∙◌, ap, take, arith}
use Rattle.std.specs.Prelude.{count_by}
use Rattle.std.proofs.lemmas.List.{take_all}
use Rattle.jobs.specs.Gathered.{is_of}
use Rattle.jobs.proofs.Gathering.{AreCounts-all, AreCounts-next_one}
use Rattle.std.proofs.Common.{refl}
use Rattle.jobs.proofs.gathered.note_each.Goals as goal

pub loop-one-init : goal.loop-one-init
loop-one-init c = record {
  jobs = refl;
  counted = λ times counts. AreCounts-all c.args.results.now.backs.items times (λ number. times number + 0) (λ number. omega arith) counts;
}

pub loop-one-preserved : goal.loop-one-preserved
loop-one-preserved c =
    let was = c.loop-one.results in let note = c.note.ensures in
    record {
      jobs = note.jobs ∙ c.loop-one.invariant.jobs;
      counted = λ times counts. AreCounts-next_one c.args.results.now.jobs.now was.jobs.now was.backs.items c.note.new.self.backs.items times c.args.solved.now c.loop-one.one-index c.one-item.result c.loop-one.invariant.jobs (omega arith) c.one-item.is was.all note.others note.this note.no_job (c.loop-one.invariant.counted times counts);
    }

pub returns-clause-counted : goal.returns-clause-counted
returns-clause-counted c = λ times counts. AreCounts-all c.loop-one.results.backs.items (λ number. times number + count_by (is_of c.args.results.now.jobs.now number) (take c.loop-one.one-index c.args.solved.now)) (λ number. times number + count_by (is_of c.args.results.now.jobs.now number) c.args.solved.now) (λ number. ap (λ xs. times number + count_by (is_of c.args.results.now.jobs.now number) xs) (take_all c.loop-one.one-index c.args.solved.now (omega arith))) (c.loop-one.invariant.counted times counts)
