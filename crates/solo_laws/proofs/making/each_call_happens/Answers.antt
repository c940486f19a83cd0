use Rattle.solo_laws.proofs.Happening.Each.{happens}
use Rattle.solo_laws.proofs.Showing.Courses.{led_known}
use Rattle.solo_laws.proofs.making.each_call_happens.Goals as goal

pub returns : goal.returns
returns g c its future owner s p x led free all may = happens its future owner s p (led_known its owner s p led) free all x may
