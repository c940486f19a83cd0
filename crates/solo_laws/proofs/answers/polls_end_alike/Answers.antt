use Rattle.solo_laws.proofs.Showing.Ending.{pends_shown, gives_shown}
use Rattle.solo_laws.proofs.answers.polls_end_alike.Goals as goal

pub returns-clause-pends : goal.returns-clause-pends
returns-clause-pends g c its s p both = pends_shown its s p both

pub returns-clause-gives : goal.returns-clause-gives
returns-clause-gives g c its s p both = gives_shown its s p both
