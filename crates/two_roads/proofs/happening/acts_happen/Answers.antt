use Rattle.two_roads.proofs.Meeting.Lists.{acts_go}
use Rattle.two_roads.proofs.happening.acts_happen.Goals as goal

pub returns : goal.returns
returns g c number outside numbers value future limit kind parties acts first before they both most fits =
    acts_go number outside numbers value future limit kind both.solo_kind parties first before both.is_new both.counted acts they most fits
