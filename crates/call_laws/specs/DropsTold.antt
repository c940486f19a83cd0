-- A call that drops a tick or a run tells so.
use Rattle.std.specs.Prelude.{◌≡◌, ℕ, ◌==◌, Bool, true, false}
use Rattle.executor_model.specs.declared.call.Call.{Call}
use Rattle.executor_model.specs.declared.call.Call.TheVariants.{DropRun, DropTick}
use Rattle.executor_model.specs.declared.event.Event.{Event}
use Rattle.executor_model.specs.declared.event.Event.TheVariants.{RunDropped, TickDropped}
use Rattle.executor_model.specs.Calls.{Each, calls}
use Rattle.executor_model.specs.Trace.{Trace, has}

abbrev pub drops_tick : ℕ → Event → Bool
drops_tick t (TickDropped p u) = t == u
drops_tick t _ = false

abbrev pub drops_run : ℕ → Event → Bool
drops_run r (RunDropped p o) = r == o
drops_run r _ = false

-- the call told itself that its tick or run is dropped
abbrev pub HasTold : Call → Trace → Type 0
HasTold (DropTick t) own = has (drops_tick t) own ≡ true
HasTold (DropRun r) own = has (drops_run r) own ≡ true
HasTold _ own = Unit {0}

-- so it is with each call of party q that has ended
abbrev pub DropsAreTold : ℕ → Trace → Type 0
DropsAreTold q trace = Each (λ e. HasTold e.call e.own) (calls q trace).ended
