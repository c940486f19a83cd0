use Rattle.std.proofs.Common.{◌∙◌, List, length, ap, sym, arith}
use Rattle.executor_parts.specs.declared.order.Link.{Link}
use Rattle.executor_parts.specs.Order.{next_of, previous_of}
use Rattle.executor_parts.proofs.Ring.{ring_grown, keys_of_ring, length-keys_of}
use Rattle.executor_parts.proofs.order.Order.reserve_to.Goals as goal

pub invariant_of-self-then-len-had : goal.invariant_of-self-then-len-had
invariant_of-self-then-len-had c =
    let ring = ring_grown c.self.inside.links.items c.pad.new.links.items _ c.self.invariant (omega (
      arith,
      c.pad.ensures.longer,
      ap (λ (ls : List Link). length ls) c.reserve.ensures.items,
    )) (λ at. c.pad.ensures.nexts at
    ∙ ap (λ (ls : List Link). next_of ls at) c.reserve.ensures.items) (λ at. c.pad.ensures.previouses at
    ∙ ap (λ (ls : List Link). previous_of ls at) c.reserve.ensures.items) in
    let keys = keys_of_ring _ _ c.self.inside.len ring (sym (length-keys_of c.self.inside.links.items c.self.inside.len)) in
    rw keys ring
