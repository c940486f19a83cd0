use Rattle.waiting.proofs.Finding.{rest_ascends}
use Rattle.waiting.proofs.entries.append.Goals as goal

pub append_to_rest-requires : goal.append_to_rest-requires
append_to_rest-requires g c = rest_ascends c.args.number c.args.first.now c.args.rest.now.entries c.requires
