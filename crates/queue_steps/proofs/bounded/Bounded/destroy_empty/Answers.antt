use Rattle.std.proofs.Common.{ap, ◌∙◌}
use Rattle.queue_steps.proofs.BoundedEmpty.{all_free}
use Rattle.queue_steps.proofs.bounded.Bounded.destroy_empty.Goals as goal

pub discard-requires : goal.discard-requires
discard-requires g c =
    let a = c.self.inside in
    all_free a.shape.capacity a.shape.mark a.tail a.head a.slots.items a.shape.sound c.self.invariant (ap (λ q. q.items) c.self.view_is
    ∙ c.requires)
