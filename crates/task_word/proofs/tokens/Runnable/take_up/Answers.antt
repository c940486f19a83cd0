use Rattle.std.proofs.Common.{sym, subst, ap, ◌∙◌}
use Rattle.task_moves.specs.Moves as moves
use Rattle.task_word.specs.declared.rule.View.{View}
use Rattle.task_word.specs.Steps.{Known, Makes}
use Rattle.task_word.proofs.tokens.Runnable.take_up.Goals as goal

pub returns-in-None-clause-made : goal.returns-in-None-clause-made
returns-in-None-clause-made g c = (
  c.take_future-future.ensures.same.0 ∙ c.take_up-owed.ensures.same.0 ∙ c.open-pass.ensures.0 ∙ c.args.self.of,
  subst (λ (v : View). Makes moves.take_up v c.take_up-owed.result)
      (sym (ap (λ (z : Known _ _ _). z.0) c.take_future-future.ensures.place)) c.take_up-owed.ensures.made,
)
