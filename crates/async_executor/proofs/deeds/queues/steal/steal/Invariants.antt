use Rattle.std.specs.Prelude.{◌≡◌, ◌-◌}
use Rattle.call_steps.specs.Stealing.{steal_on}
use Rattle.async_executor.specs.Runs.{steal_with}
use Rattle.async_executor.proofs.deeds.queues.steal.steal.Given as goal

-- this many are still to be moved
abbrev pub invariant-loop-moved : goal.invariant-loop-moved
invariant-loop-moved g l =
    l.steps ≡ steal_on (l.moves - l.moved) l.fn.theft.at (steal_with l.fn.theft.name.now l.fn.from l.fn.theft.then.now)
