use Rattle.two_roads.proofs.TakenInActs.{none_begun}
use Rattle.two_roads.proofs.order.only_begun_runs_have_futures.Goals as goal

pub returns : goal.returns
returns g limit kind parties before are go r only follows k away = none_begun limit kind parties before are go r only follows k away
