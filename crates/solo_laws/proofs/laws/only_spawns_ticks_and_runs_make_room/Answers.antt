use Rattle.solo_laws.proofs.RoomCourses.{makes_no_room}
use Rattle.solo_laws.proofs.laws.only_spawns_ticks_and_runs_make_room.Goals as goal

pub returns : goal.returns
returns g c limit kind calls first last = makes_no_room limit kind calls first last
