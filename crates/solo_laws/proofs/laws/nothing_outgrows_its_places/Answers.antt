use Rattle.solo_laws.proofs.RoomCourses.{has_places}
use Rattle.solo_laws.proofs.laws.nothing_outgrows_its_places.Goals as goal

pub returns : goal.returns
returns g c limit kind calls first last = has_places limit kind calls first last
