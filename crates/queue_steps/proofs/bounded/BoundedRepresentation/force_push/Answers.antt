use Rattle.std.proofs.Common.{refl, inr, arith}
use Rattle.queue_steps.proofs.BoundedWords.{word_fits}
use Rattle.queue_steps.proofs.BoundedRests.{tail_place, head_place, appends, queue_appends, accepts, nothing_there, full, shuts}
use Rattle.queue_steps.proofs.BoundedRests.{queue_shuts, last_item, displaces, items_displaced, queue_displaces}
use Rattle.queue_steps.proofs.bounded.BoundedRepresentation.force_push.Goals as goal

pub append-requires-clause-place : goal.append-requires-clause-place
append-requires-clause-place g c =
    let a = c.self.inside in let e = rw c.in-Push-Append.field-0-is at c.in-Push-Append.ensures in
    tail_place a.shape.capacity a.shape.mark a.tail a.head a.slots.items a.shape.sound c.self.invariant e.3

pub invariant_of-self : goal.invariant_of-self
invariant_of-self g c =
    let a = c.self.inside in let e = rw c.in-Push-Append.field-0-is at c.in-Push-Append.ensures in
    rw (c.append.ensures.tail, c.append.ensures.slots)
    (appends a.shape.capacity a.shape.mark a.tail a.head a.slots.items a.shape.sound c.self.invariant c.args.value e.1 e.2 e.3)

pub next-self-inside-requires : goal.next-self-inside-requires
next-self-inside-requires g c =
    let a = c.self.inside in let e = c.in-Displace.ensures in
    head_place a.shape.capacity a.shape.mark a.tail a.head a.slots.items a.shape.sound c.self.invariant (let full = e.2 in let few = e.3 in
    omega arith)

pub append-requires-in-Displace-clause-place : goal.append-requires-in-Displace-clause-place
append-requires-in-Displace-clause-place g c =
    let a = c.self.inside in let e = c.in-Displace.ensures in
    tail_place a.shape.capacity a.shape.mark a.tail a.head a.slots.items a.shape.sound c.self.invariant e.3

pub invariant_of-self-in-Displace : goal.invariant_of-self-in-Displace
invariant_of-self-in-Displace g c =
    let a = c.self.inside in let e = c.in-Displace.ensures in
    rw (c.append-in-Displace.ensures.tail, c.append-in-Displace.ensures.slots, c.next-self-inside.ensures)
    (displaces a.shape.capacity a.shape.mark a.tail a.head a.slots.items a.shape.sound c.self.invariant c.args.value e.1 e.2 e.3)

pub overflow_add-self : goal.overflow_add-self
overflow_add-self g c =
    let a = c.self.inside in let e = rw c.in-Push-Spend.field-0-is at c.in-Push-Spend.ensures in
    let fits = word_fits a.shape.capacity a.shape.mark a.tail a.shape.sound (let k = e.2 in omega arith) in omega arith

pub invariant_of-self-in-Push-Spend : goal.invariant_of-self-in-Push-Spend
invariant_of-self-in-Push-Spend g c =
    let a = c.self.inside in let e = rw c.in-Push-Spend.field-0-is at c.in-Push-Spend.ensures in
    shuts a.shape.capacity a.shape.mark a.tail a.head a.slots.items a.shape.sound c.self.invariant e.1

pub returns-in-Push-Append : goal.returns-in-Push-Append
returns-in-Push-Append g c =
    let a = c.self.inside in let e = rw c.in-Push-Append.field-0-is at c.in-Push-Append.ensures in
    rw (
      c.append.ensures.old,
      nothing_there a.shape.capacity a.shape.mark a.tail a.head a.slots.items a.shape.sound c.self.invariant e.1 e.2,
      ← c.self.view_is,
      c.append.ensures.tail,
      c.append.ensures.slots,
    ) (
      accepts a.shape.capacity a.shape.mark a.tail a.head a.slots.items a.shape.sound c.self.invariant e.1 e.2 e.3,
      queue_appends a.shape.capacity a.shape.mark a.tail a.head a.slots.items a.shape.sound c.self.invariant c.args.value e.1 e.2,
    )

pub returns-in-Displace : goal.returns-in-Displace
returns-in-Displace g c =
    let a = c.self.inside in let e = c.in-Displace.ensures in
    let y = last_item a.shape.capacity a.shape.mark a.tail a.head a.slots.items a.shape.sound c.self.invariant e.2 in
    rw (
      c.append-in-Displace.ensures.old,
      y.1,
      ← c.self.view_is,
      c.append-in-Displace.ensures.tail,
      c.append-in-Displace.ensures.slots,
      c.next-self-inside.ensures,
    ) (
      e.1,
      full a.shape.capacity a.shape.mark a.tail a.head a.slots.items a.shape.sound c.self.invariant e.2,
      e.3,
      items_displaced a.shape.capacity a.shape.mark a.tail a.head a.slots.items a.shape.sound c.self.invariant y.0 e.2 y.1,
      queue_displaces a.shape.capacity a.shape.mark a.tail a.head a.slots.items a.shape.sound c.self.invariant c.args.value y.0 e.1 e.2 y.1,
    )

pub returns-in-Push-Spend : goal.returns-in-Push-Spend
returns-in-Push-Spend g c =
    let a = c.self.inside in let e = rw c.in-Push-Spend.field-0-is at c.in-Push-Spend.ensures in
    rw (← c.self.view_is)
    (inr (e.1, e.2, queue_shuts a.shape.capacity a.shape.mark a.tail a.head a.slots.items a.shape.sound c.self.invariant e.1), refl)
