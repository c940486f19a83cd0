-- The runs of the code, as the model's.
use Rattle.executor_model.specs.World.{Run, Stage, New, Listed, Ended, Lock}
use Rattle.executor_core.specs.declared.runs.lock.Lock.{Lock as LockOfList}
use Rattle.executor_core.specs.declared.runs.run.Run.{Run as RunOfCode}
use Rattle.executor_core.specs.declared.runs.run.Stage.{Stage as StageOfRun}
use Rattle.executor_core.specs.declared.runs.run.Stage.TheVariants as stage
use Rattle.executor_core.specs.Ticks.{as_ticker}

abbrev pub as_stage : StageOfRun → Stage
as_stage stage.New = New
as_stage stage.Listed = Listed
as_stage stage.Ended = Ended

abbrev pub as_lock : LockOfList → Lock
as_lock l = record { writing = l.writing; readers = l.readers }

abbrev pub as_run : RunOfCode → Run
as_run x = record {
  place = as_ticker x.place;
  stage = as_stage x.stage;
  dropped = x.dropped;
  taken = x.counts.taken;
  counted = x.counts.counted;
}
