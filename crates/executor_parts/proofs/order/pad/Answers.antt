use Rattle.std.proofs.Common.{◌∙◌, ap, arith}
use Rattle.executor_parts.specs.declared.order.Link.{Link}
use Rattle.executor_parts.proofs.Ring.{padded_link}
use Rattle.executor_parts.proofs.order.pad.Goals as goal

pub loop-place-preserved : goal.loop-place-preserved
loop-place-preserved c = record {
  place = omega (arith, c.push_reserved.ensures.len);
  longer = omega (arith, c.push_reserved.ensures.len, c.loop-place.invariant.longer);
  nexts = λ at. rw c.push_reserved.ensures.items (ap (λ (l : Link). l.next) (padded_link c.loop-place.links.items at)
      ∙ c.loop-place.invariant.nexts at);
  previouses = λ at. rw c.push_reserved.ensures.items (ap (λ (l : Link). l.previous) (padded_link c.loop-place.links.items at)
      ∙ c.loop-place.invariant.previouses at);
  capacity = omega arith;
}
