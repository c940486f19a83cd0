use Rattle.machine_roads.proofs.ActsToEnd.{acts_to_the_end}
use Rattle.machine_roads.proofs.nested.lists_of_nested_calls_go_alike_to_the_end.Goals as goal

pub returns : goal.returns
returns g limit kind parties acts are quiet = acts_to_the_end limit kind parties acts are quiet
