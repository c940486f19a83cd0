use Rattle.std.proofs.Common.{ap, sym, ◌∙◌, ℕ, ◌+◌, ◌≡◌, ◌≢◌}
use Rattle.queue_steps.specs.Bounded.{is_marked}
use Rattle.queue_steps.specs.declared.steps.bounded.Shape.{Shape}
use Rattle.concurrent_queue.proofs.BoundedFaces.{or_open}
use Rattle.concurrent_queue.proofs.BoundedStands.{spends_on}
use Rattle.concurrent_queue.proofs.bounded.pushing.at_spend.Goals as goal

pub spend-found-requires-clause-seen : goal.spend-found-requires-clause-seen
spend-found-requires-clause-seen g c =
    let shape = c.args.ring.now.shape in let tail : ℕ = c.args.tail in let key = c.requires.seat.3 in (
      ap (λ (z : Shape). is_marked z.mark tail) key ∙ c.requires.stands,
      or_open shape.mark tail shape.bits shape.power c.requires.stands ∙ ap (λ (z : Shape). tail + z.mark) (sym key),
    )

pub returns-clause-on : goal.returns-clause-on
returns-clause-on g c =
    let shape = c.args.ring.now.shape in let tail : ℕ = c.args.tail in let found : ℕ = c.spend-found.result in
    let did = c.spend-found.ensures.1 in let after = c.spend-found.new.pass.me.0 in
    let closed : found ≢ tail → after.closed ≡ is_marked shape.mark found =
    λ lost. ap (λ m. m.0.closed) did.2 ∙ did.5 lost ∙ ap (λ (mark : ℕ). is_marked mark found) c.requires.seat.5 in (
      found,
      ap (λ m. m.0.found) did.2,
      c.push_at_spend.ensures.plain,
      c.push_at_spend.ensures.forced,
      spends_on shape tail found after (ap (λ m. m.0.stage) did.2) (ap (λ m. m.0.word) did.2) c.push_at_spend.result closed
          c.push_at_spend.ensures.plain,
    )
