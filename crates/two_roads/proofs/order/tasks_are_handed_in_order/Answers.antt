use Rattle.two_roads.proofs.HandedOut.{hands_in_order}
use Rattle.two_roads.proofs.order.tasks_are_handed_in_order.Goals as goal

pub returns : goal.returns
returns g c its limit kind is_static calls cs first middle last shown others number before after r m is_new counted led on alone =
    hands_in_order its r limit kind is_static calls cs first middle last shown others number before after is_new counted led on alone m
