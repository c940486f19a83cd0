use Rattle.std.proofs.Common.{None, ◌≡◌}
use Rattle.waiting.proofs.Finding.{taken_there}
use Rattle.waiting.proofs.entries.take_from_rest.Goals as goal

pub returns : goal.returns
returns g c =
    taken_there c.args.number c.requires.0 c.args.rest.now.entries c.remove.new.self.entries c.remove.result c.requires.1
    c.remove.ensures.value c.remove.ensures.entries (λ (none : c.remove.result ≡ None). rw none at c.remove.ensures.unchanged)
