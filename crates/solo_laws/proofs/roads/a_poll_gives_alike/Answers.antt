use Rattle.solo_laws.proofs.Following.Begun.{gives_both}
use Rattle.solo_laws.proofs.roads.a_poll_gives_alike.Goals as goal

pub returns : goal.returns
returns g c its s p both choice f by rest v stands_in = gives_both its choice s p both f by rest stands_in v
