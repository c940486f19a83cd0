use Rattle.plain_laws.proofs.GivingBack.{gives_back}
use Rattle.plain_laws.proofs.coming.runs_give_back_in_order.Goals as goal

pub returns : goal.returns
returns g b wakes c r answer p rest is = gives_back r wakes c answer p rest is
