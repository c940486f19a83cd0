use Rattle.solo_laws.proofs.Following.Listed.{each_listed}
use Rattle.solo_laws.proofs.Following.Polled.{busy, polled}
use Rattle.solo_laws.proofs.Following.RunRefusing.{runs_lie_refused, runs_refused}
use Rattle.solo_laws.proofs.Showing.Courses.{led_known}
use Rattle.solo_laws.proofs.running.runs_are_refused_alike.Goals as goal

pub returns-clause-once : goal.returns-clause-once
returns-clause-once g c its number s p both n listed = runs_refused its number s p both n listed

pub returns-clause-later : goal.returns-clause-later
returns-clause-later g c its number s p both n listed = runs_lie_refused its number s p both n listed

pub returns-clause-led : goal.returns-clause-led
returns-clause-led g c its owner s p led =
    let known = led_known its owner s p led in
    let listed = each_listed (polled p) (busy p) s.runs known.listed in (
      runs_refused its owner.number s p known.stands known.numbered listed,
      runs_lie_refused its owner.number s p known.stands known.numbered listed,
    )
