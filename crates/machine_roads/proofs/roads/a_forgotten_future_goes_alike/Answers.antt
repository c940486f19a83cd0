use Rattle.machine_roads.proofs.Forgetting.{forgotten_goes}
use Rattle.machine_roads.proofs.roads.a_forgotten_future_goes_alike.Goals as goal

pub returns : goal.returns
returns g taker final p f below w q c it under is many = forgotten_goes taker final p f below w q c it under is many
