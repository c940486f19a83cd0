use Rattle.std.proofs.Common.{sym, subst, ap, ◌∙◌}
use Rattle.task_moves.specs.Moves as moves
use Rattle.task_word.specs.declared.rule.View.{View}
use Rattle.task_word.specs.Steps.{Known, Makes}
use Rattle.task_word.proofs.tokens.runs.Run.pend.Goals as goal

pub returns-in-Some-next-clause-made : goal.returns-in-Some-next-clause-made
returns-in-Some-next-clause-made g c = (
  c.take_future-future.ensures.same.0 ∙ c.end_pending-future.ensures.same.0 ∙ c.put_future.ensures.same.0 ∙ c.args.self.seat.0,
  subst (λ (v : View). Makes moves.end_pending v c.end_pending-future.result.owed)
      (sym (ap (λ (z : Known _ _ _). z.0) c.take_future-future.ensures.place)) c.end_pending-future.ensures.made,
)
