use Rattle.machine_roads.proofs.RunEnding.{loses_in_take}
use Rattle.machine_roads.proofs.roads.a_loss_in_a_take_ends_alike.Goals as goal

pub returns : goal.returns
returns g taker final p f below w q awaiter c it under ending many =
    loses_in_take taker final p f below w q awaiter c it under ending many
