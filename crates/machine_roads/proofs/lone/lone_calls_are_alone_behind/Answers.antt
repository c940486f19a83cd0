use Rattle.machine_roads.proofs.CallsBehind.{lone_call_is_behind}
use Rattle.machine_roads.proofs.lone.lone_calls_are_alone_behind.Goals as goal

pub returns : goal.returns
returns g limit kind parties steps q quiet follows = lone_call_is_behind limit kind parties steps q quiet follows
