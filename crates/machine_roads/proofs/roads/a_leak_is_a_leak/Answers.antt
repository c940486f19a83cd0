use Rattle.machine_roads.proofs.Leaking.{leaks}
use Rattle.machine_roads.proofs.roads.a_leak_is_a_leak.Goals as goal

pub returns : goal.returns
returns g p here below w q under follows = leaks p here below w q under follows
