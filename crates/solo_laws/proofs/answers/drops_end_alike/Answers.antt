use Rattle.solo_laws.proofs.Following.Drops.{given_drops_shown, closed_drops_shown}
use Rattle.solo_laws.proofs.Showing.Losing.{loses_shown}
use Rattle.solo_laws.proofs.answers.drops_end_alike.Goals as goal

pub returns-clause-given : goal.returns-clause-given
returns-clause-given g c its s p both = given_drops_shown its s p both

pub returns-clause-closed : goal.returns-clause-closed
returns-clause-closed g c its s p both = closed_drops_shown its s p both

pub returns-clause-loses : goal.returns-clause-loses
returns-clause-loses g c its s p both = loses_shown its s p both.0
