use Rattle.solo_laws.proofs.Showing.Courses.{led_known, run_room, tick_room}
use Rattle.solo_laws.proofs.Showing.StillListed.{its_own}
use Rattle.solo_laws.proofs.lying.each_has_its_room.Goals as goal

pub returns-clause-ticks : goal.returns-clause-ticks
returns-clause-ticks g c its owner s p led t lives =
    let known = led_known its owner s p led in tick_room its owner s p known.stands known.numbered known.housed t lives

pub returns-clause-runs : goal.returns-clause-runs
returns-clause-runs g c its owner s p led r going =
    let known = led_known its owner s p led in
    run_room its owner s p known.stands known.numbered known.housed r (its_own its r s p known.stands going)
