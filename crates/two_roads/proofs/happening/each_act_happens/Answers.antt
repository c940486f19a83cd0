use Rattle.two_roads.proofs.Meeting.Met.{each_acts}
use Rattle.two_roads.proofs.happening.each_act_happens.Goals as goal

pub returns : goal.returns
returns g c number outside numbers value future limit kind parties acts first before they l names a it way may =
    each_acts number outside numbers value future limit kind l.both_new.solo_kind parties acts l.calls first l.last l.shown before l.after they
    l.both_new.is_new l.both_new.counted l.led l.same names a it way may
