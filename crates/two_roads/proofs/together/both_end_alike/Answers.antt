use Rattle.two_roads.proofs.AtRest.{lone_end_together}
use Rattle.two_roads.proofs.together.both_end_alike.Goals as goal

pub returns : goal.returns
returns g c its number limit kind parties ls more drop first before lone drops rest l e =
    lone_end_together its number limit kind l.both_new.solo_kind parties l.calls first l.last l.shown before l.after l.both_new.is_new l.both_new.counted l.led ls more drop e.ends e.last
    e.others lone drops rest e.then_so l.same e.same
