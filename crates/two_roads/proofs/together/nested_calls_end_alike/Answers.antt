use Rattle.two_roads.proofs.InDrop.{nested_end_together}
use Rattle.two_roads.proofs.together.nested_calls_end_alike.Goals as goal

pub returns : goal.returns
returns g c its number limit kind parties acts go a d later stands on first before l =
    nested_end_together its number limit kind l.both_new.solo_kind parties acts go a d later stands on l.calls l.ends first l.middle l.last l.shown
    l.others before l.after l.both_new.is_new l.both_new.counted l.led l.then_so l.same
