use Rattle.machine_roads.proofs.LoneTakes.{lone_tick_is_polled, lone_tries}
use Rattle.machine_roads.proofs.lone.lone_takes_rest_alike.Goals as goal

pub returns-clause-tries : goal.returns-clause-tries
returns-clause-tries g limit kind parties steps q quiet follows = lone_tries limit kind parties steps q quiet follows

pub returns-clause-ticks : goal.returns-clause-ticks
returns-clause-ticks g limit kind parties steps q quiet follows = lone_tick_is_polled limit kind parties steps q quiet follows
