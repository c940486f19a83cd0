use Rattle.std.proofs.Common.{sym, subst, ◌∙◌}
use Rattle.pool.proofs.place.spawn_on.Goals as goal

pub returns-in-Err-spawn_here : goal.returns-in-Err-spawn_here
returns-in-Err-spawn_here g c = (
  c.in-Ok.future,
  c.in-Ok.ensures.future,
  subst (λ back. g.F.From.from_gives c.in-Ok.future back) (sym c.in-Err-spawn_here.ensures) c.from.ensures,
)

pub returns-in-Err : goal.returns-in-Err
returns-in-Err g c =
    (c.unanswered.result, c.unanswered.ensures.future ∙ c.in-Err.ensures.back, c.from-in-Err.ensures)
