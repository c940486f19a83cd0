use Rattle.std.proofs.Common.{sym, subst}
use Rattle.waiting.specs.Ascending.{Ascends, before}
use Rattle.waiting.proofs.Finding.{dropped_ascends}
use Rattle.waiting.proofs.waiters.Waiters.tell.Goals as goal

pub invariant_of-self : goal.invariant_of-self
invariant_of-self g c = subst (λ l. Ascends 0 c.self.inside.next l) (sym c.pop.ensures.told)
    (dropped_ascends c.self.inside.next (before c.self.inside.first c.self.inside.rest.entries) c.self.invariant)
