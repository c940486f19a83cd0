use Rattle.solo_laws.proofs.Following.Begun.{pends_both}
use Rattle.solo_laws.proofs.roads.a_poll_ends_alike.Goals as goal

pub returns : goal.returns
returns g c its s p both choice f by one rest future stands_in many life =
    pends_both its choice s p both f by rest stands_in future one many life
