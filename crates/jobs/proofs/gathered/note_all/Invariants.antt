use Rattle.std.proofs.Common.{◌≡◌, ℕ, ◌+◌, take}
use Rattle.jobs.specs.Gathered.{AreCounts, times_back}
use Rattle.jobs.proofs.gathered.note_all.Given as goal

abbrev pub invariant-loop-solved : goal.invariant-loop-solved
invariant-loop-solved l = record {
  jobs : l.results.jobs.now ≡ l.fn.results.jobs.now;
  counted : (times : ℕ → ℕ) → AreCounts l.fn.results.backs.items times → AreCounts l.results.backs.items (λ number. times number + times_back l.fn.results.jobs.now (take l.solved-index l.returned) number);
}
