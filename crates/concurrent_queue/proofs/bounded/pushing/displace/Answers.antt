use Rattle.std.proofs.Common.{ap, sym, subst, ◌∙◌, ℕ, ◌-◌, ◌∷◌, Some, arith}
use Rattle.queue_steps.specs.Bounded.{IsPlaceWord, next_at}
use Rattle.queue_steps.specs.declared.steps.bounded.Shape.{Shape}
use Rattle.concurrent_queue.proofs.BoundedFaces.{place_before}
use Rattle.queue_steps.proofs.BoundedWords.{place_fits}
use Rattle.concurrent_queue.proofs.bounded.pushing.displace.Goals as goal

pub next-requires : goal.next-requires
next-requires g c =
    let shape = c.args.ring.now.shape in let tail : ℕ = c.args.tail in
    subst (λ (lap : ℕ). IsPlaceWord shape.capacity shape.mark (tail - lap)) (sym c.lap.ensures)
    (place_before shape.capacity shape.mark shape.sound tail c.requires.stands.2 c.requires.stands.3)

pub advance-requires-clause-seen : goal.advance-requires-clause-seen
advance-requires-clause-seen g c =
    let did = c.displace-found.ensures.1.0 c.if-found-head.false in (
      ap (λ m. m.0.stage) did.1,
      sym (ap (λ m. m.0.word) did.1 ∙ c.requires.stands.0.1),
    )

pub advance-requires-clause-next : goal.advance-requires-clause-next
advance-requires-clause-next g c = let tail : ℕ = c.args.tail in
    c.next-2.ensures ∙ ap (λ (z : Shape). next_at z.capacity z.mark tail) (sym c.requires.seat.3)

pub advance-requires-clause-place : goal.advance-requires-clause-place
advance-requires-clause-place g c =
    let tail : ℕ = c.args.tail in subst (λ (z : Shape). IsPlaceWord z.capacity z.mark tail) (sym c.requires.seat.3) c.requires.stands.3

pub overflow_add-tail : goal.overflow_add-tail
overflow_add-tail g c =
    let shape = c.args.ring.now.shape in
    let fits = place_fits shape.capacity shape.mark c.args.tail shape.sound c.requires.stands.3 in
    let above = shape.sound.above in
    omega arith

pub write-requires-clause-held : goal.write-requires-clause-held
write-requires-clause-held g c =
    let did = c.displace-found.ensures.1.0 c.if-found-head.false in
    let place = c.requires.stands.0.2 ∙ sym c.index.ensures in
    (Some did.0, ap (λ m. m.1) c.advance.ensures.1.0 ∙ ap (λ m. m.1) did.1 ∙ (λ i. (place i, Some did.0) ∷ (c.requires.seat.4 i)))
