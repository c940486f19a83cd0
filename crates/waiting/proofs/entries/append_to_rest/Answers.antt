use Rattle.std.proofs.Common.{◌∙◌, None}
use Rattle.waiting.proofs.Finding.{appended}
use Rattle.waiting.proofs.entries.append_to_rest.Goals as goal

pub returns-in-Ok-clause-last : goal.returns-in-Ok-clause-last
returns-in-Ok-clause-last g c = c.in-Ok.ensures.entries ∙ appended 0 c.args.number None c.args.rest.now.entries c.requires
