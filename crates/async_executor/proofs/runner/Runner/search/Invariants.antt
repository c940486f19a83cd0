use Rattle.std.proofs.Common.{◌≡◌, [], ◌∷◌}
use Rattle.call_steps.specs.declared.names.TickOrRun.TheVariants.{Run}
use Rattle.call_steps.specs.declared.step.CallStep.TheVariants as step
use Rattle.call_steps.specs.declared.step.tick.TickStep.TheVariants as tick_step
use Rattle.async_executor.specs.Ticks.{sleeping}
use Rattle.async_executor.proofs.runner.Runner.search.Given as goal

-- it is to search
abbrev pub invariant-loop : goal.invariant-loop
invariant-loop g l =
    (goal.iterator-loop g).can_next l.iterator' × (goal.iterator-loop g).is_finite l.iterator'
    × (l.steps ≡ step.Tick (tick_step.Search (sleeping (Run tt) l.fn.search.name.now)) ∷ [])
