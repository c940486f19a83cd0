use Rattle.lone_machine.proofs.Acting.{acted}
use Rattle.lone_machine.proofs.calls.calls_are_acts.Goals as goal

pub returns : goal.returns
returns g c its number limit kind solo_kind parties calls first last shown before after is_new counted led may =
    acted number its limit kind solo_kind parties calls first last shown before after is_new counted led may
