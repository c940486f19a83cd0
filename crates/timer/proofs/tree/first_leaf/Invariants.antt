use Rattle.std.proofs.Common.{◌-◌, ◌≡◌, ◌+◌, ◌<◌, slice_index}
use Rattle.timer.proofs.tree.first_leaf.Given as goal

abbrev pub invariant-loop-node : goal.invariant-loop-node
invariant-loop-node l = record {
  pos : 0 < l.node;
  within : l.node < l.room + l.room;
  least : slice_index l.nodes l.node ≡ slice_index l.nodes 1;
}

abbrev pub decreases-loop-node : goal.decreases-loop-node
decreases-loop-node l = l.room - l.node
