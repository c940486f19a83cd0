use Rattle.std.proofs.Common.{rules, ap, sym, ◌∙◌, ◌∷◌, Some, List, ℕ}
use Rattle.atomic_table.specs.Table.{rest}
use Rattle.task_word.specs.Cell.{Slot}
use Rattle.task_word.specs.declared.rule.Content.TheVariants.{Output}
use Rattle.task_word.proofs.slot.take_output.Goals as goal

pub exchange-requires : goal.exchange-requires
exchange-requires g c = let h = c.requires.has in (
  search rules,
  (Some (Output h.0), h.1 ∙ ap (λ (z : List (ℕ × Slot _ _ _)). (0, Some (Output h.0)) ∷ z) (sym (ap rest h.1))),
)
