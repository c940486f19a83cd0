use Rattle.solo_laws.proofs.Following.Listed.{each_listed}
use Rattle.solo_laws.proofs.Following.Polled.{busy, polled}
use Rattle.solo_laws.proofs.Following.RunResting.{runs_rest}
use Rattle.solo_laws.proofs.Showing.Courses.{led_known}
use Rattle.solo_laws.proofs.running.runs_rest_alike.Goals as goal

pub returns-clause-listed : goal.returns-clause-listed
returns-clause-listed g c its number s p both n listed = runs_rest its number s p both n listed

pub returns-clause-led : goal.returns-clause-led
returns-clause-led g c its owner s p led =
    let known = led_known its owner s p led in
    runs_rest its owner.number s p known.stands known.numbered (each_listed (polled p) (busy p) s.runs known.listed)
