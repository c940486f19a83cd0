use Rattle.std.proofs.Common.{◌+◌, None, sym, subst}
use Rattle.waiting.specs.Ascending.{Ascends, before}
use Rattle.waiting.proofs.Finding.{appended_ascends}
use Rattle.waiting.proofs.waiters.Waiters.listen.Goals as goal

pub invariant_of-self-2 : goal.invariant_of-self-2
invariant_of-self-2 g c = subst (λ l. Ascends 0 (c.self.inside.next + 1) l) (sym c.in_ok-append.ensures.last)
    (appended_ascends 0 c.self.inside.next None (before c.self.inside.first c.self.inside.rest.entries) c.self.invariant)
