use Rattle.std.proofs.Common.{[], refl}
use Rattle.executor_model.specs.Steps.{start}
use Rattle.executor_model.proofs.Steps.Reached.{reached-more}
use Rattle.machine_roads.proofs.ActsOrder.{act_orders}
use Rattle.machine_roads.proofs.nested.acts_keep_runs_in_order.Goals as goal

pub returns : goal.returns
returns g limit kind parties steps s made q a call stands is on so =
    act_orders s
    (reached-more steps (start limit kind parties) s
    (record { limit = limit; kind = kind; parties = parties; steps = []; is = refl }) made) q a call stands is on so
