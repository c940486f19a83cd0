use Rattle.std.proofs.Common.{ap, ◌∙◌, Some}
use Rattle.task_word.specs.Steps.{Known}
use Rattle.task_word.proofs.Badged.{left_awaiter}
use Rattle.task_word.proofs.tokens.take_left.Goals as goal

pub take_awaiter-awaiter-requires-clause-has : goal.take_awaiter-awaiter-requires-clause-has
take_awaiter-awaiter-requires-clause-has g c =
    let h = left_awaiter c.args.schedule c.args.is_left c.args.pass c.in-None.is c.if-is_left.true c.requires.has in (Some h.0, h.1.1)

pub empty-requires-clause-has : goal.empty-requires-clause-has
empty-requires-clause-has g c =
    let h = left_awaiter c.args.schedule c.args.is_left c.args.pass c.in-None.is c.if-is_left.true c.requires.has in
    let p = c.take_awaiter-awaiter.ensures.place in
    (ap (λ (z : Known _ _ _). z.0.hold) p ∙ h.1.0, ap (λ (z : Known _ _ _). z.1) p)
