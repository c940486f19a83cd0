use Rattle.std.proofs.Common.{ap, arith}
use Rattle.executor_parts.specs.Places.{parts_of}
use Rattle.executor_parts.proofs.Placing.{some_under, is_there, reads_some, went, placed_left}
use Rattle.executor_parts.proofs.places.Places.remove.Goals as goal

pub remove-held-requires : goal.remove-held-requires
remove-held-requires g c = some_under _ c.self.inside.order.keys c.args.key c.self.invariant.0 (rw (← c.self.view_is) at c.requires)

pub invariant_of-self : goal.invariant_of-self
invariant_of-self g c =
    rw c.remove.ensures.keys (
      placed_left _ _ _ c.args.key c.self.invariant.0 (is_there _ _ _ c.remove-held.result c.self.invariant.0
          c.remove-held.ensures.value) c.remove-held.ensures.updates c.remove-held.ensures.len,
      omega (arith, c.remove-held.ensures.len, c.self.invariant.1),
    )

pub returns-clause-parts : goal.returns-clause-parts
returns-clause-parts g c = rw (← c.self.view_is) (ap parts_of
    (reads_some _ _ c.args.key c.remove-held.result c.self.invariant.0 c.remove-held.ensures.value))

pub returns-clause-left : goal.returns-clause-left
returns-clause-left g c =
    rw (c.remove.ensures.keys, ← c.self.view_is)
    (went _ _ _ c.args.key c.remove-held.result c.self.invariant.0.apart
    (is_there _ _ _ c.remove-held.result c.self.invariant.0 c.remove-held.ensures.value) c.remove-held.ensures.value
    c.remove-held.ensures.updates)
