use Rattle.std.proofs.Common.{◌≡◌, ◌<◌, ℕ}
use Rattle.std.specs.Prelude.{get_or, vec_items, vec_len}
use Rattle.jobs.proofs.running.fn.work_together.scope.Given as goal

-- there is a handle for each thread that was started, and each promises what this place brings
abbrev pub invariant-loop-seed : goal.invariant-loop-seed
invariant-loop-seed g l =
    (vec_len l.threads ≡ l.seed) × ((k : ℕ) (d : _) → k < l.seed → (get_or (vec_items l.threads) k d).promise.0.now ≡ l.place)
