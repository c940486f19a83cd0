use Rattle.two_roads.proofs.TakenInActs.{all_acts_in_order}
use Rattle.two_roads.proofs.order.plain_futures_are_taken_in_order.Goals as goal

pub returns : goal.returns
returns g limit kind parties before acts go on r alone begins ends none =
    all_acts_in_order limit kind parties before acts go on r alone begins ends none
