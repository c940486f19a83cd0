use Rattle.std.proofs.Common.{◌≡◌, [], ◌∷◌}
use Rattle.call_steps.specs.declared.step.CallStep.TheVariants as step
use Rattle.call_steps.specs.declared.step.run.RunStep.TheVariants as run_step
use Rattle.async_executor.proofs.runner.Runner.reschedule.Given as goal

-- the rest is to be scheduled, and its room in the list stays
abbrev pub invariant-loop : goal.invariant-loop
invariant-loop g l =
    (goal.iterator-loop g).can_next l.iterator' × (goal.iterator-loop g).is_finite l.iterator'
    × (l.self.room ≡ l.fn.self.room) × (l.steps ≡ step.Run (run_step.Reschedule tt l.fn.reply) ∷ [])
