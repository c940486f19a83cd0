use Rattle.std.proofs.Common.{ap, ◌∙◌}
use Rattle.task_moves.specs.declared.moves.owed.Owed.{Owed}
use Rattle.async_task.proofs.Idle.{woken_of, idle_release, if_rest}
use Rattle.async_task.proofs.cell.site.Site.release.Goals as goal

pub returns : goal.returns
returns g c = let o = c.release-left.ensures.owes in
    if_rest _ _ c.left.ensures.told (ap (λ (z : Owed). woken_of z.schedule) o.1 ∙ idle_release o.0)
