use Rattle.machine_roads.proofs.Forgetting.{forgets_so}
use Rattle.machine_roads.proofs.roads.an_end_that_forgets_ends_alike.Goals as goal

pub returns : goal.returns
returns g p here below w q under follows = forgets_so p here below w q under follows
