use Rattle.std.proofs.Common.{subst, sym}
use Rattle.solo_laws.specs.NoneLost.{NoneIsLost}
use Rattle.solo_laws.specs.Owner.{new_owner}
use Rattle.solo_laws.proofs.Happening.LastCalls.{last_calls_happen}
use Rattle.solo_laws.proofs.Showing.AllThere.{none_lost}
use Rattle.solo_laws.proofs.Showing.Courses.{led_known}
use Rattle.solo_laws.proofs.making.last_calls_happen.Goals as goal

pub returns : goal.returns
returns g c its owner s p x xs led may =
    last_calls_happen its s p (led_known its owner s p led).stands
    (subst NoneIsLost (sym led.course_is)
    (none_lost its led.limit led.is_static led.calls (new_owner led.before) owner led.first s led.shown led.leads))
    x xs may
