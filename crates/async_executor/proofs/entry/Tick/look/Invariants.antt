use Rattle.std.proofs.Common.{◌≡◌, [], ◌∷◌}
use Rattle.call_steps.specs.declared.names.TickOrRun.TheVariants.{Tick}
use Rattle.call_steps.specs.declared.step.CallStep.TheVariants as step
use Rattle.call_steps.specs.declared.step.tick.TickStep.TheVariants as tick_step
use Rattle.async_executor.specs.Polls.{has_left}
use Rattle.async_executor.specs.Steps.{name_given}
use Rattle.async_executor.specs.Ticks.{sleeping}
use Rattle.async_executor.proofs.entry.Tick.look.Given as goal

-- it is to search by its waker's name, hasn't left since, and no poll has ended
abbrev pub invariant-loop : goal.invariant-loop
invariant-loop g l =
    (goal.iterator-loop g).can_next l.iterator' × (goal.iterator-loop g).is_finite l.iterator'
    × (has_left l.self.ticker ≡ has_left l.fn.self.ticker) × (l.self.answered ≡ l.fn.self.answered)
    × (l.steps ≡ step.Tick (tick_step.Search (sleeping (Tick tt) l.name)) ∷ [])
    × (l.name ≡ name_given l.fn.waker)
