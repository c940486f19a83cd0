use Rattle.std.proofs.Common.{◌≡◌, ℕ, ◌+◌, take}
use Rattle.std.specs.Prelude.{count_by}
use Rattle.jobs.specs.Gathered.{AreCounts, is_of}
use Rattle.jobs.proofs.gathered.note_each.Given as goal

abbrev pub invariant-loop-one : goal.invariant-loop-one
invariant-loop-one l = record {
  jobs : l.results.jobs.now ≡ l.fn.results.jobs.now;
  counted : (times : ℕ → ℕ) → AreCounts l.fn.results.backs.items times → AreCounts l.results.backs.items (λ number. times number + count_by (is_of l.fn.results.jobs.now number) (take l.one-index l.solved));
}
