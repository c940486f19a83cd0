use Rattle.machine_roads.proofs.PollCalls.{polls}
use Rattle.machine_roads.proofs.roads.a_handle_is_polled_alike.Goals as goal

pub returns : goal.returns
returns g p here below w q under follows = polls p here below w q under follows
