use Rattle.two_roads.proofs.InStepToEnd.{steps_end_together}
use Rattle.two_roads.proofs.together.calls_end_alike.Goals as goal

pub returns : goal.returns
returns g c its number limit kind parties acts a later first before they quiet acts_so begins they_too l e =
    steps_end_together its number limit kind l.both_new.solo_kind parties acts a later l.calls e.ends first l.last e.last l.shown e.others before l.after they
    quiet acts_so begins they_too l.both_new.is_new l.both_new.counted l.led e.then_so l.same e.same
