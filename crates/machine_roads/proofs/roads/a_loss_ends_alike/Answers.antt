use Rattle.machine_roads.proofs.Losing.{loses_alike}
use Rattle.machine_roads.proofs.roads.a_loss_ends_alike.Goals as goal

pub returns : goal.returns
returns g p f below w q c under losing = loses_alike p f below w q c under losing
