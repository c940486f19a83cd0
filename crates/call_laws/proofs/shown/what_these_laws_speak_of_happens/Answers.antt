use Rattle.call_laws.proofs.Showing.{causes-met, laws-met}
use Rattle.call_laws.proofs.shown.what_these_laws_speak_of_happens.Goals as goal

pub returns-clause-laws : goal.returns-clause-laws
returns-clause-laws c = laws-met

pub returns-clause-causes : goal.returns-clause-causes
returns-clause-causes c = causes-met
