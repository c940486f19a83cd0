use Rattle.solo_laws.proofs.Showing.Calling.{cancels_shown, detaches_shown, handle_drops_shown}
use Rattle.solo_laws.proofs.answers.handles_show_alike.Goals as goal

pub returns-clause-cancels : goal.returns-clause-cancels
returns-clause-cancels g c its s p both = cancels_shown its s p both.0

pub returns-clause-detaches : goal.returns-clause-detaches
returns-clause-detaches g c its s p both = detaches_shown its s p both.0

pub returns-clause-drops : goal.returns-clause-drops
returns-clause-drops g c its s p both = handle_drops_shown its s p both.0
