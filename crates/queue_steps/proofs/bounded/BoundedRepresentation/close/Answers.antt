use Rattle.std.proofs.Common.{◌≡◌, Bool, true, false, not, refl, sym, ◌∙◌, arith}
use Rattle.queue_steps.specs.Bounded.{is_marked}
use Rattle.queue_steps.proofs.BoundedWords.{word_fits}
use Rattle.queue_steps.proofs.BoundedFinds.{tail_count}
use Rattle.queue_steps.proofs.BoundedRests.{shuts, queue_shuts}
use Rattle.queue_steps.proofs.bounded.BoundedRepresentation.close.Goals as goal

-- a close that is the first found no mark
opens : (marked : Bool) → not marked ≡ true → marked ≡ false
opens true e = sym e
opens false e = refl

pub overflow_add-self : goal.overflow_add-self
overflow_add-self g c =
    let a = c.self.inside in
    let count = tail_count a.shape.capacity a.shape.mark a.tail a.head a.slots.items a.shape.sound c.self.invariant in
    let few = c.self.invariant.few in
    let fits = word_fits a.shape.capacity a.shape.mark a.tail a.shape.sound (omega arith) in omega arith

pub invariant_of-self : goal.invariant_of-self
invariant_of-self g c =
    let a = c.self.inside in
    let unmarked = opens (is_marked a.shape.mark a.tail) (sym c.close-first.ensures ∙ c.if-first.true) in
    shuts a.shape.capacity a.shape.mark a.tail a.head a.slots.items a.shape.sound c.self.invariant unmarked

pub returns-then-first : goal.returns-then-first
returns-then-first g c =
    let a = c.self.inside in
    let unmarked = opens (is_marked a.shape.mark a.tail) (sym c.close-first.ensures ∙ c.if-first.true) in
    rw (← c.self.view_is) (
      c.close-first.ensures,
      queue_shuts a.shape.capacity a.shape.mark a.tail a.head a.slots.items a.shape.sound c.self.invariant unmarked,
    )
