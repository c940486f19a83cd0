use Rattle.two_roads.proofs.PollsShown.{polls_part}
use Rattle.two_roads.proofs.order.polls_shown_are_of_tasks_handed.Goals as goal

pub returns : goal.returns
returns g c its limit kind is_static calls cs first middle last shown others number before after r is_new counted led on may =
    polls_part its r limit kind is_static calls cs first middle last shown others number before after is_new counted led on may
