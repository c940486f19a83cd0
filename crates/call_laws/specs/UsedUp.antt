-- A kept waker that a call has used up is gone.
use Rattle.std.specs.Prelude.{◌≡◌, ℕ, ◌==◌, Bool, true, false, None}
use Rattle.executor_model.specs.declared.call.Call.TheVariants.{DropWaker, Wake}
use Rattle.executor_model.specs.declared.event.Event.{Event}
use Rattle.executor_model.specs.declared.event.Event.TheVariants.{CallBegun}
use Rattle.executor_model.specs.Steps.{Machine, kept}
use Rattle.executor_model.specs.Trace.{has}

-- a call begins that calls waker k and lets it go, or lets it go alone
abbrev pub uses_up : ℕ → Event → Bool
uses_up k (CallBegun p (Wake j)) = k == j
uses_up k (CallBegun p (DropWaker j)) = k == j
uses_up k _ = false

abbrev pub UsedUpIsGone : Machine → Type 0
UsedUpIsGone s = (k : ℕ) → has (uses_up k) s.world.trace ≡ true → kept s.world k ≡ None
