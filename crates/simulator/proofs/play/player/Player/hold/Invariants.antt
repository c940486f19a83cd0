-- What the items to come make of the script is what all of them make of it.
use Rattle.std.proofs.Common.{◌≡◌, drop}
use Rattle.simulator.specs.Turn.{held}
use Rattle.simulator.proofs.play.player.Player.hold.Given as goal

abbrev pub invariant-loop-item : goal.invariant-loop-item
invariant-loop-item l = record {
  told : held (drop l.item-index l.items) l.held l.self ≡ held l.items l.held l.initial.self;
  steps : l.self.tried ≡ l.initial.self.tried;
}
