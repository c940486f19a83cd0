use Rattle.std.proofs.lemmas.Bool.Decides.{nat_tests}
use Rattle.std.proofs.Common.{arith}
use Rattle.queue_laws.proofs.FreePlaces.{is_within, free_places_stay, seen_places_stay}
use Rattle.queue_laws.proofs.laws.free_places_stay_free.Goals as goal

pub returns-clause-within : goal.returns-clause-within
returns-clause-within = grind (arith, nat_tests, is_within)

pub returns-clause-state : goal.returns-clause-state
returns-clause-state = grind (arith, nat_tests, free_places_stay)

pub returns-clause-look : goal.returns-clause-look
returns-clause-look = grind (arith, nat_tests, seen_places_stay)
