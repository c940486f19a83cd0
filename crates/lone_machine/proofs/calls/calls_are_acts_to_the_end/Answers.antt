use Rattle.lone_machine.proofs.Acting.{ended}
use Rattle.lone_machine.proofs.calls.calls_are_acts_to_the_end.Goals as goal

pub returns : goal.returns
returns g c its number limit kind solo_kind parties calls ends first middle last shown others before after is_new counted led drops may =
    ended number its limit kind solo_kind parties calls first middle last shown others before after ends is_new counted led drops may
