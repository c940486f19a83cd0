use Rattle.std.proofs.Common.{refl, inr, sym, ◌∙◌, arith}
use Rattle.std.proofs.lemmas.Option.{none-some}
use Rattle.queue_steps.proofs.BoundedWords.{word_fits}
use Rattle.queue_steps.proofs.BoundedRests.{tail_place, appends, queue_appends, nothing_there, accepts, full, roomy, shuts, queue_shuts}
use Rattle.queue_steps.proofs.bounded.BoundedRepresentation.push.Goals as goal

pub append-requires-clause-place : goal.append-requires-clause-place
append-requires-clause-place g c =
    let a = c.self.inside in let e = c.in-Append.ensures in
    tail_place a.shape.capacity a.shape.mark a.tail a.head a.slots.items a.shape.sound c.self.invariant e.3

pub invariant_of-self : goal.invariant_of-self
invariant_of-self g c =
    let a = c.self.inside in let e = c.in-Append.ensures in
    rw (c.append.ensures.tail, c.append.ensures.slots)
    (appends a.shape.capacity a.shape.mark a.tail a.head a.slots.items a.shape.sound c.self.invariant c.args.value e.1 e.2 e.3)

pub returns-in-None : goal.returns-in-None
returns-in-None g c =
    let a = c.self.inside in let e = c.in-Append.ensures in
    rw (← c.self.view_is, c.append.ensures.tail, c.append.ensures.slots) (
      accepts a.shape.capacity a.shape.mark a.tail a.head a.slots.items a.shape.sound c.self.invariant e.1 e.2 e.3,
      queue_appends a.shape.capacity a.shape.mark a.tail a.head a.slots.items a.shape.sound c.self.invariant c.args.value e.1 e.2,
    )

-- the place had no item
pub unreachable-requires : goal.unreachable-requires
unreachable-requires g c =
    let a = c.self.inside in let e = c.in-Append.ensures in
    let nothing = nothing_there a.shape.capacity a.shape.mark a.tail a.head a.slots.items a.shape.sound c.self.invariant e.1 e.2 in
    none-some c.in-Some.field-0 (sym nothing ∙ sym c.append.ensures.old ∙ c.in-Some.is)

pub overflow_add-self : goal.overflow_add-self
overflow_add-self g c =
    let a = c.self.inside in let e = c.in-Spend.ensures in
    let fits = word_fits a.shape.capacity a.shape.mark a.tail a.shape.sound (let k = e.3 in omega arith) in omega arith

pub invariant_of-self-in-Spend : goal.invariant_of-self-in-Spend
invariant_of-self-in-Spend g c =
    let a = c.self.inside in let e = c.in-Spend.ensures in
    shuts a.shape.capacity a.shape.mark a.tail a.head a.slots.items a.shape.sound c.self.invariant e.1

pub returns-in-Spend : goal.returns-in-Spend
returns-in-Spend g c =
    let a = c.self.inside in let e = c.in-Spend.ensures in
    rw (← c.self.view_is) (
      inr (e.1, e.3, queue_shuts a.shape.capacity a.shape.mark a.tail a.head a.slots.items a.shape.sound c.self.invariant e.1),
      (λ _. roomy a.shape.capacity a.shape.mark a.tail a.head a.slots.items a.shape.sound c.self.invariant e.2),
      refl,
    )

pub returns-in-HeadFor : goal.returns-in-HeadFor
returns-in-HeadFor g c =
    let a = c.self.inside in let e = c.in-HeadFor.ensures in
    rw (← c.self.view_is)
    (e.1, full a.shape.capacity a.shape.mark a.tail a.head a.slots.items a.shape.sound c.self.invariant e.2, refl, refl)
