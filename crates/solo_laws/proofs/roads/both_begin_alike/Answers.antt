use Rattle.solo_laws.proofs.Following.Beginning.{both_begin}
use Rattle.solo_laws.proofs.roads.both_begin_alike.Goals as goal

pub returns : goal.returns
returns g c its limit kind is_static s fresh counted = both_begin its limit kind is_static s fresh counted
