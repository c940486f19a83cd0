use Rattle.std.proofs.lemmas.Bool.Decides.{nat_tests}
use Rattle.std.proofs.Common.{arith}
use Rattle.queue_laws.proofs.FilledPlaces.{free_places_are_filled, seen_places_are_filled}
use Rattle.queue_laws.proofs.laws.free_places_are_not_refused.Goals as goal

pub returns-clause-state : goal.returns-clause-state
returns-clause-state = grind (arith, nat_tests, free_places_are_filled)

pub returns-clause-look : goal.returns-clause-look
returns-clause-look g c n m shape steps = seen_places_are_filled n m shape steps
