use Rattle.std.proofs.Common.{ℕ, nat_eq, sym, ap, ◌∙◌}
use Rattle.executor_parts.proofs.Placing.{length-entries}
use Rattle.executor_parts.proofs.places.Places.is_empty.Goals as goal

pub returns : goal.returns
returns g c = rw (← c.self.view_is) (ap (λ (n : ℕ). nat_eq n 0) (c.len.ensures ∙ sym (length-entries _ _ c.self.invariant.0)))
