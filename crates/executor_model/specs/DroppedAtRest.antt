-- Once the executor was dropped, and no call is in progress, each accepted future was dropped once.
use Rattle.std.specs.Prelude.{◌≡◌, ℕ, Bool, true, false}
use Rattle.executor_model.specs.declared.call.Call.TheVariants.{DropExecutor}
use Rattle.executor_model.specs.declared.event.Event.{Event}
use Rattle.executor_model.specs.declared.event.Event.TheVariants.{CallBegun}
use Rattle.executor_model.specs.DroppedOnce.{IsDroppedOnce}
use Rattle.executor_model.specs.Quiet.{IsQuiet}
use Rattle.executor_model.specs.Trace.{Trace, has, is_accepted}

-- somebody drops the executor
abbrev pub is_executor_drop : Event → Bool
is_executor_drop (CallBegun p DropExecutor) = true
is_executor_drop _ = false

abbrev pub IsDroppedAtRest : ℕ → Trace → Type 0
IsDroppedAtRest f trace =
    IsQuiet trace → has is_executor_drop trace ≡ true → has (is_accepted f) trace ≡ true → IsDroppedOnce f trace
