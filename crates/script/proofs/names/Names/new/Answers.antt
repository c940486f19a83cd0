use Rattle.std.proofs.Common.{refl}
use Rattle.std.specs.List.{IsDistinct}
use Rattle.script.proofs.names.Names.new.Goals as goal

pub invariant_of-result : goal.invariant_of-result
unfolding IsDistinct
invariant_of-result c = record {
  distinct = rw c.new.ensures.items tt;
  numbered = λ name. rw (c.new.ensures.items, c.new-2.ensures.empty) refl;
}
