use Rattle.solo_laws.proofs.Happening.Lists.{lists_happen}
use Rattle.solo_laws.proofs.making.lists_of_calls_happen.Goals as goal

pub returns : goal.returns
returns g c future limit kind is_static first number xs is counted most may =
    lists_happen future limit kind is_static first number xs is counted most may
