use Rattle.solo_laws.proofs.Showing.Calling.{wakes_shown, releases_shown, uses_shown, copies_shown}
use Rattle.solo_laws.proofs.answers.wakers_show_alike.Goals as goal

pub returns-clause-wakes : goal.returns-clause-wakes
returns-clause-wakes g c its s p both = wakes_shown its s p both.0

pub returns-clause-releases : goal.returns-clause-releases
returns-clause-releases g c its s p both = releases_shown its s p both.0

pub returns-clause-uses : goal.returns-clause-uses
returns-clause-uses g c its s p both = uses_shown its s p both.0

pub returns-clause-copies : goal.returns-clause-copies
returns-clause-copies g c its s p both = copies_shown its s p both.0
