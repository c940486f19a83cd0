use Rattle.std.proofs.Common.{◌∙◌}
use Rattle.executor_core.proofs.Seating.{is_found}
use Rattle.executor_core.proofs.table.entries.Entries.contains.Goals as goal

pub returns : goal.returns
returns c = rw (← c.self.view_is)
    (c.is_some.ensures ∙ is_found c.args.f _ c.find.result c.find.ensures.found c.find.ensures.absent)
