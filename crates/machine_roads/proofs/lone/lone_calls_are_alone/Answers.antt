use Rattle.std.proofs.Common.{refl}
use Rattle.executor_model.specs.Steps.{run, start}
use Rattle.machine_roads.proofs.LoneRuns.{lone_calls}
use Rattle.machine_roads.proofs.lone.lone_calls_are_alone.Goals as goal

pub returns : goal.returns
returns g limit kind parties steps =
    lone_calls (run steps (start limit kind parties))
    (record { limit = limit; kind = kind; parties = parties; steps = steps; is = refl })
