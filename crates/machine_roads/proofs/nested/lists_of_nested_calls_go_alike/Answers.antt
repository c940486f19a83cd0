use Rattle.machine_roads.proofs.Acts.{acts_alike}
use Rattle.machine_roads.proofs.nested.lists_of_nested_calls_go_alike.Goals as goal

pub returns : goal.returns
returns g limit kind parties acts are = acts_alike limit kind parties acts are
