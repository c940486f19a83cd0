use Rattle.std.proofs.Common.{◌≡◌, ℕ, ◌+◌, ◌<◌, length, get_or}
use Rattle.concurrent_queue.proofs.bounded.new_words.Given as goal

abbrev pub invariant-loop-index : goal.invariant-loop-index
invariant-loop-index l = (length l.row ≡ l.capacity + 32) × (get_or l.row 0 0 ≡ 0) × (get_or l.row 16 0 ≡ 0)
    × ((j : ℕ) → j < l.index → get_or l.row (j + 32) 0 ≡ j)
