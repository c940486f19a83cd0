-- What is said of ticks and runs together.
use Rattle.std.specs.Prelude.{◌≡◌, true}
use Rattle.executor_model.specs.declared.op.TickOrRun.{TickOrRun}
use Rattle.executor_model.specs.declared.op.TickOrRun.TheVariants as tick_or_run
use Rattle.executor_model.specs.World.{Ticker}
use Rattle.executor_core.specs.Ticks.{Ticked, place_in}
use Rattle.executor_core.specs.Running.{Running, run_in}
use Rattle.executor_core.specs.declared.runs.ticks_and_runs.TicksAndRuns.{TicksAndRuns}

-- where a tick or run is
abbrev pub where_is : Ticked → Running → TickOrRun → Ticker
where_is ts rs (tick_or_run.Tick t) = place_in ts t
where_is ts rs (tick_or_run.Run r) = (run_in rs r).place

-- one more may be made without memory
pub record HasRoom (s : TicksAndRuns) : Type 0 where
  pub ticks : s.ticks.has_room ≡ true
  pub runs : s.runs.has_room ≡ true
  pub flagged_sleepers : s.flagged_sleepers.has_room ≡ true
