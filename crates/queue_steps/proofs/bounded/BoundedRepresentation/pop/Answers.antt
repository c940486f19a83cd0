use Rattle.std.proofs.Common.{sym, ◌∙◌, arith}
use Rattle.queue_steps.proofs.BoundedRests.{head_place, counts, takes, queue_takes, items_first, first_value}
use Rattle.queue_steps.proofs.bounded.BoundedRepresentation.pop.Goals as goal

pub take-requires-clause-place : goal.take-requires-clause-place
take-requires-clause-place g c =
    let a = c.self.inside in let e = c.in-Take.ensures in
    head_place a.shape.capacity a.shape.mark a.tail a.head a.slots.items a.shape.sound c.self.invariant
    (let k = counts a.shape.capacity a.shape.mark a.tail a.head a.slots.items a.shape.sound c.self.invariant in
    let few = c.self.invariant.few in let some = e.1 in omega arith)

pub unwrap-requires : goal.unwrap-requires
unwrap-requires g c =
    let a = c.self.inside in let e = c.in-Take.ensures in
    rw c.take.ensures.item (first_value a.shape.capacity a.shape.mark a.tail a.head a.slots.items a.shape.sound c.self.invariant e.1)

pub invariant_of-self : goal.invariant_of-self
invariant_of-self g c =
    let a = c.self.inside in let e = c.in-Take.ensures in
    rw (c.take.ensures.head, c.take.ensures.slots)
    (takes a.shape.capacity a.shape.mark a.tail a.head a.slots.items a.shape.sound c.self.invariant e.1)

pub returns-in-Take : goal.returns-in-Take
returns-in-Take g c =
    let a = c.self.inside in let e = c.in-Take.ensures in
    let is = sym c.take.ensures.item ∙ c.unwrap.ensures in
    rw (← c.self.view_is, c.take.ensures.head, c.take.ensures.slots) (
      items_first a.shape.capacity a.shape.mark a.tail a.head a.slots.items a.shape.sound c.self.invariant c.unwrap.result e.1 is,
      queue_takes a.shape.capacity a.shape.mark a.tail a.head a.slots.items a.shape.sound c.self.invariant c.unwrap.result e.1 is,
    )
