use Rattle.executor_model.proofs.Table.Spotting.{in-places}
use Rattle.executor_model.proofs.laws.futures_are_in_their_places.Goals as goal

pub returns : goal.returns
returns c = in-places
