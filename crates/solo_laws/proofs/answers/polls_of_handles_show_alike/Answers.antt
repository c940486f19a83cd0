use Rattle.solo_laws.proofs.Showing.Polling.{handles_shown}
use Rattle.solo_laws.proofs.answers.polls_of_handles_show_alike.Goals as goal

pub returns : goal.returns
returns g c its s p both = handles_shown its s p both.0
