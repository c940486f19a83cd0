use Rattle.two_roads.proofs.AtRest.{lone_together}
use Rattle.two_roads.proofs.together.both_show_alike.Goals as goal

pub returns : goal.returns
returns g c its number limit kind parties ls first before lone l =
    lone_together its number limit kind l.both_new.solo_kind parties l.calls first l.last l.shown before l.after l.both_new.is_new l.both_new.counted l.led ls lone l.same
