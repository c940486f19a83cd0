use Rattle.machine_roads.proofs.Calling.{uses_alike, wakes_kept, wakes_itself}
use Rattle.machine_roads.proofs.roads.a_wake_is_a_wake.Goals as goal

pub returns-clause-uses : goal.returns-clause-uses
returns-clause-uses g p here below w q under follows = uses_alike p below under here w q follows

pub returns-clause-wakes : goal.returns-clause-wakes
returns-clause-wakes g p here below w q under follows = wakes_kept p below under here w q follows

pub returns-clause-itself : goal.returns-clause-itself
returns-clause-itself g p here below w q under follows = wakes_itself p below under here w q follows
