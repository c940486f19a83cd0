-- How many wakers of a future live: kept ones, those of the table, of stored awaiters and of sleepers, and those on their way.
use Rattle.std.specs.Prelude.{ℕ, ◌^◌, ◌≤◌}
use Rattle.executor_model.specs.Sound.{living, pend}
use Rattle.executor_model.specs.Steps.{Machine}

abbrev pub FewLive : Machine → ℕ → Type 0
FewLive s f = living s.world f (pend f s.parties) ≤ 2 ^ 40
