use Rattle.solo_laws.proofs.Courses.{told_after}
use Rattle.solo_laws.proofs.laws.who_sleeps_is_told.Goals as goal

pub returns : goal.returns
returns g c limit kind calls first last = told_after limit kind calls first last
