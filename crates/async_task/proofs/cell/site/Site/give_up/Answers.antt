use Rattle.std.proofs.Common.{ap, ◌∙◌}
use Rattle.task_moves.specs.declared.moves.owed.Owed.{Owed}
use Rattle.async_task.proofs.Idle.{woken_of, idle_give_up, if_rest}
use Rattle.async_task.proofs.cell.site.Site.give_up.Goals as goal

pub returns : goal.returns
returns g c = let o = c.give_up-left.ensures.owes in
    if_rest _ _ c.left.ensures.told (ap (λ (z : Owed). woken_of z.schedule) o.1 ∙ idle_give_up o.0)
