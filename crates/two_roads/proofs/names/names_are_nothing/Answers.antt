use Rattle.two_roads.proofs.Calling.{courses_same}
use Rattle.two_roads.proofs.names.names_are_nothing.Goals as goal

pub returns : goal.returns
returns g c output waker wakes wakes_as cs p ds same are = courses_same output waker wakes wakes_as same cs p ds are
