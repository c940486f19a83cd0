use Rattle.machine_roads.proofs.DropActs.{drop_acts}
use Rattle.machine_roads.proofs.nested.calls_nested_in_the_executors_drop_go_alike.Goals as goal

pub returns : goal.returns
returns g limit kind parties steps q quiet follows = drop_acts limit kind parties steps q quiet follows
