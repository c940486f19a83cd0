use Rattle.two_roads.proofs.Inner.{nested_together}
use Rattle.two_roads.proofs.together.nested_calls_show_alike.Goals as goal

pub returns : goal.returns
returns g c its number limit kind parties acts go first before l =
    nested_together its number limit kind l.both_new.solo_kind parties acts go l.calls first l.last l.shown before l.after l.both_new.is_new l.both_new.counted l.led l.same
