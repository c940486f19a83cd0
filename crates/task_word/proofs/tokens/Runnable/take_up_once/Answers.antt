use Rattle.std.proofs.Common.{sym, subst, ap, ◌∙◌}
use Rattle.task_moves.specs.Moves as moves
use Rattle.task_word.specs.Once.{begins}
use Rattle.task_word.specs.declared.rule.View.{View}
use Rattle.task_word.specs.Steps.{Known, Makes}
use Rattle.task_word.proofs.tokens.Runnable.take_up_once.Goals as goal

pub returns-then-take_up_once-clause-made : goal.returns-then-take_up_once-clause-made
returns-then-take_up_once-clause-made g c = (
  c.take_future-future.ensures.same.0 ∙ c.take_up_once.ensures.same.0 ∙ c.open-pass.ensures.0 ∙ c.args.self.of,
  subst (λ (v : View). Makes moves.take_up v begins)
      (sym (ap (λ (z : Known _ _ _). z.0) c.take_future-future.ensures.place)) (c.take_up_once.ensures.made c.if-take_up_once.true),
)
