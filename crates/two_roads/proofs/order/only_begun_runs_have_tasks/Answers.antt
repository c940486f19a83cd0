use Rattle.two_roads.proofs.OnlyBegun.{only_begun}
use Rattle.two_roads.proofs.order.only_begun_runs_have_tasks.Goals as goal

pub returns : goal.returns
returns g d its limit kind is_static calls first middle shown number before r is_new counted led only k away =
    only_begun its limit kind is_static calls first middle shown number before r is_new counted led only k away
