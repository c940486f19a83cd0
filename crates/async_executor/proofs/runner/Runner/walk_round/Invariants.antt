use Rattle.std.specs.Prelude.{◌≡◌}
use Rattle.async_executor.specs.Runs.{walks}
use Rattle.async_executor.proofs.runner.Runner.walk_round.Given as goal

-- it walks, with this many queues behind
abbrev pub invariant-loop-nth : goal.invariant-loop-nth
invariant-loop-nth g l = l.steps ≡ walks l.fn.search.name.now l.behind
