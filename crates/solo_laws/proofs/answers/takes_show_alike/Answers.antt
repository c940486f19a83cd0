use Rattle.solo_laws.proofs.Showing.Taking.{takes_shown}
use Rattle.solo_laws.proofs.answers.takes_show_alike.Goals as goal

pub returns : goal.returns
returns g c its s p both = takes_shown its s p both
