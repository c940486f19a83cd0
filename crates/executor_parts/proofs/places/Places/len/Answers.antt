use Rattle.std.proofs.Common.{sym, ◌∙◌}
use Rattle.executor_parts.proofs.Placing.{length-entries}
use Rattle.executor_parts.proofs.places.Places.len.Goals as goal

pub returns-clause-len : goal.returns-clause-len
returns-clause-len g c = rw (← c.self.view_is) (c.len.ensures ∙ sym (length-entries _ _ c.self.invariant.0))
