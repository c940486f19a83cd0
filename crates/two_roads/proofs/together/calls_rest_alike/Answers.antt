use Rattle.two_roads.proofs.AtRest.{rest_together}
use Rattle.two_roads.proofs.together.calls_rest_alike.Goals as goal

pub returns : goal.returns
returns g c its number limit kind parties acts first before they quiet l =
    rest_together its number limit kind l.both_new.solo_kind parties l.calls first l.last l.shown before l.after l.both_new.is_new l.both_new.counted l.led acts they quiet l.same
