use Rattle.std.proofs.Common.{◌≡◌, ap, sym, ◌∙◌, arith}
use Rattle.slab.specs.Slab.{get}
use Rattle.executor_parts.specs.declared.places.EntryPlace.{EntryPlace}
use Rattle.executor_parts.proofs.Placing.{vacant_at, reads_none, entered, placed_entered, length-entries}
use Rattle.executor_parts.proofs.places.Places.enter.Goals as goal

pub invariant_of-self : goal.invariant_of-self
invariant_of-self g c =
    let absent = vacant_at _ _ _ c.self.invariant.0 c.insert_reserved-key.ensures.was_vacant in
    rw c.push.ensures.keys (
      placed_entered _ _ _ _ _ c.self.invariant.0 absent c.insert_reserved-key.ensures.updates c.insert_reserved-key.ensures.len,
      omega (arith, c.insert_reserved-key.ensures.len, rw (← c.self.view_is) at c.requires.below, length-entries _ _ c.self.invariant.0),
    )

pub returns-clause-entered : goal.returns-clause-entered
returns-clause-entered g c =
    let absent = vacant_at _ _ _ c.self.invariant.0 c.insert_reserved-key.ensures.was_vacant in
    let key : c.args.vacancy.place.key ≡ c.insert_reserved-key.result = ap (λ (p : EntryPlace). p.key) c.requires.place
    ∙ sym (ap (λ s. s.next.key) c.self.view_is) ∙ sym c.insert_reserved-key.ensures.key in
    rw (c.push.ensures.keys, ← c.self.view_is, key) (entered _ _ _ _ _ absent c.insert_reserved-key.ensures.updates)

pub returns-clause-was_free : goal.returns-clause-was_free
returns-clause-was_free g c =
    let key : c.args.vacancy.place.key ≡ c.insert_reserved-key.result = ap (λ (p : EntryPlace). p.key) c.requires.place
    ∙ sym (ap (λ s. s.next.key) c.self.view_is) ∙ sym c.insert_reserved-key.ensures.key in
    rw (← c.self.view_is) (reads_none _ _ _ c.self.invariant.0 (ap (get c.self.inside.slab) key
    ∙ c.insert_reserved-key.ensures.was_vacant))
