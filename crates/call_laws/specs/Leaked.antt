-- A leak that has ended has made the executor static.
use Rattle.std.specs.Prelude.{◌≡◌, true}
use Rattle.executor_model.specs.Steps.{Machine}
use Rattle.executor_model.specs.Trace.{has, is_leak_begun}
use Rattle.call_laws.specs.InProgress.{InProgress, is_leak}

abbrev pub LeakedIsStatic : Machine → Type 0
LeakedIsStatic s = has is_leak_begun s.world.trace ≡ true → ¬ InProgress (λ b. is_leak b.call) s.world.trace →
    s.world.is_static ≡ true
