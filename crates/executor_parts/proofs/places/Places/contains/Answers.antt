use Rattle.std.proofs.Common.{sym, ap, is_some}
use Rattle.executor_parts.proofs.Placing.{none_in, is_here}
use Rattle.executor_parts.proofs.places.Places.contains.Goals as goal

pub returns-in-Some : goal.returns-in-Some
returns-in-Some g c = rw (← c.self.view_is) (sym (is_here c.args.place _ _ c.in-Some.held.now c.self.invariant.0 (sym c.in-Some.ensures)))

pub returns-in-None : goal.returns-in-None
returns-in-None g c = rw (← c.self.view_is) (sym (ap is_some (none_in c.args.place _ _ c.self.invariant.0 (sym c.in-None.ensures))))
