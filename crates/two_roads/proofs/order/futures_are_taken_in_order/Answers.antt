use Rattle.two_roads.proofs.TakenInActs.{acts_in_order}
use Rattle.two_roads.proofs.order.futures_are_taken_in_order.Goals as goal

pub returns : goal.returns
returns g limit kind parties before acts go on r m alone begins ends =
    acts_in_order limit kind parties before acts go on r alone begins ends m
