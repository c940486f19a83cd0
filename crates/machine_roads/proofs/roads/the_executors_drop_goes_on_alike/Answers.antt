use Rattle.machine_roads.proofs.InDrop.{drop_goes_on}
use Rattle.machine_roads.proofs.roads.the_executors_drop_goes_on_alike.Goals as goal

pub returns : goal.returns
returns g p w fs all codes q d hints is has rests = drop_goes_on p w fs all codes q d hints is has rests
