use Rattle.solo_laws.proofs.Following.Running.{runs_begin, runs_unmade}
use Rattle.solo_laws.proofs.lying.runs_begin_alike.Goals as goal

pub returns-clause-made : goal.returns-clause-made
returns-clause-made g c its number s p both numbers = runs_begin its number s p both numbers

pub returns-clause-refused : goal.returns-clause-refused
returns-clause-refused g c its number s p both numbers = runs_unmade its number s p both numbers
