use Rattle.std.proofs.Common.{◌≡◌, ◌+◌, ◌<◌, ◌/◌, drop, slice_set}
use Rattle.timer.proofs.Trees.{IsTreeBut}
use Rattle.timer.proofs.tree.set_leaf.Given as goal

abbrev pub invariant-loop-node : goal.invariant-loop-node
invariant-loop-node l = record {
  pos : 0 < l.node;
  within : l.node < l.room + l.room;
  tree : IsTreeBut l.room (l.node / 2) l.nodes;
  leaves : drop l.room l.nodes ≡ slice_set (drop l.room l.fn.nodes) l.place l.time;
}

abbrev pub decreases-loop-node : goal.decreases-loop-node
decreases-loop-node l = l.node
