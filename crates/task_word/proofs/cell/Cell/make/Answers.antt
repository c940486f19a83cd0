use Rattle.std.proofs.Common.{ap, ◌∙◌}
use Rattle.task_word.specs.Steps.{Known}
use Rattle.task_word.proofs.cell.Cell.make.Goals as goal

pub make-handle-requires-clause-has : goal.make-handle-requires-clause-has
make-handle-requires-clause-has g c = let q = c.put_future.ensures.future in let h = c.if-reserve.ensures.right in
    (c.args.future, (ap (λ (z : Known _ _ _). z.0.hold) q ∙ h.0, ap (λ (z : Known _ _ _). z.1) q))
