use Rattle.solo_laws.proofs.Counts.{is_numbered}
use Rattle.solo_laws.proofs.laws.tasks_are_numbered_in_order.Goals as goal

pub returns : goal.returns
returns g c limit kind calls first last = is_numbered limit kind calls first last
