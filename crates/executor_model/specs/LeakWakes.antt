-- A leak of the executor that has ended has called the waker of each future that it found.
use Rattle.std.specs.Prelude.{◌≡◌, ℕ, true, false}
use Rattle.std.specs.List.{before_first}
use Rattle.executor_model.specs.Rows.{leaking_of}
use Rattle.executor_model.specs.Steps.{Machine}
use Rattle.executor_model.specs.Trace.{Trace, has, is_accepted, is_dropped, is_leak_begun, is_leaked}
use Rattle.executor_model.specs.Weights.{weigh_all}

-- what had happened as the leak of the executor began
abbrev pub before_leak : Trace → Trace
before_leak trace = before_first is_leak_begun trace

-- a leak has begun, and none is in progress
pub record HasLeaked (s : Machine) : Type 0 where
  pub begun : has is_leak_begun s.world.trace ≡ true
  pub ended : weigh_all leaking_of s.parties ≡ 0

-- then it has woken future f, where that was accepted before it began, and isn't dropped
abbrev pub LeakWakes : Machine → ℕ → Type 0
LeakWakes s f = HasLeaked s → has (is_accepted f) (before_leak s.world.trace) ≡ true →
    has (is_dropped f) s.world.trace ≡ false → has (is_leaked f) s.world.trace ≡ true
