use Rattle.solo_laws.proofs.Following.NextOnes.{keeps_alike, keeps_of_both}
use Rattle.solo_laws.proofs.running.runs_keep_alike.Goals as goal

pub returns-clause-one : goal.returns-clause-one
returns-clause-one g c its s p both = keeps_alike its s p both

pub returns-clause-both : goal.returns-clause-both
returns-clause-both g c its s p both = keeps_of_both its s p both
