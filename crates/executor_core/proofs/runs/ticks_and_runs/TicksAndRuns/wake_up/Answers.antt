use Rattle.executor_core.specs.FallingAsleep as falling
use Rattle.executor_core.specs.Ticks.{as_ticker}
use Rattle.executor_core.proofs.TicksAndRunsAt.{put-run, put-tick}
use Rattle.executor_core.proofs.runs.ticks_and_runs.TicksAndRuns.wake_up.Goals as goal

pub returns-in-Tick-clause-ticks : goal.returns-in-Tick-clause-ticks
returns-in-Tick-clause-ticks c =
    let s = c.args.self.now in
    put-tick s.ticks s.runs c.args.who falling.awake_now (as_ticker c.take-place.result) (as_ticker c.wake_up-place.result.0)
    c.in-Tick.t c.take-place.new.self c.put.new.self c.in-Tick.is c.take-place.ensures.left
    c.take-place.ensures.taken c.wake_up-place.ensures.place c.put.ensures

pub returns-in-Run-clause-runs : goal.returns-in-Run-clause-runs
returns-in-Run-clause-runs c =
    let s = c.args.self.now in
    put-run s.ticks s.runs c.args.who falling.awake_now (as_ticker c.take_place-place.result)
    (as_ticker c.wake_up-place-in-Run.result.0) c.in-Run.r c.take_place-place.new.self c.put_place.new.self c.in-Run.is
    c.take_place-place.ensures.left c.take_place-place.ensures.taken c.wake_up-place-in-Run.ensures.place
    c.put_place.ensures
