use Rattle.two_roads.proofs.InStep.{steps_together}
use Rattle.two_roads.proofs.together.calls_show_alike.Goals as goal

pub returns : goal.returns
returns g c its number limit kind parties acts first before they l =
    steps_together its number limit kind l.both_new.solo_kind parties acts l.calls first l.last l.shown before l.after they l.both_new.is_new l.both_new.counted l.led l.same
