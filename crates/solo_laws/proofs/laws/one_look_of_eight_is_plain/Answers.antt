use Rattle.solo_laws.proofs.Looks.{one_is_plain}
use Rattle.solo_laws.proofs.laws.one_look_of_eight_is_plain.Goals as goal

pub returns : goal.returns
returns g c calls first last does = one_is_plain calls first last does
