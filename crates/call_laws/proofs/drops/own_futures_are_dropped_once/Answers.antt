use Rattle.call_laws.proofs.DroppedOnce.{dropped-once}
use Rattle.call_laws.proofs.drops.own_futures_are_dropped_once.Goals as goal

pub returns : goal.returns
returns c = dropped-once
