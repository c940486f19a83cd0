use Rattle.std.proofs.Common.{rules, ap, sym, ◌∙◌, ◌∷◌, List, ℕ}
use Rattle.atomic_table.specs.Table.{rest}
use Rattle.task_word.specs.Cell.{Slot}
use Rattle.task_word.specs.Awaiter.{awaiter_slot}
use Rattle.task_word.proofs.slot.take_awaiter.Goals as goal

pub exchange-requires : goal.exchange-requires
exchange-requires g c = let h = c.requires.has in (
  search rules,
  (awaiter_slot h.0, h.1 ∙ ap (λ (z : List (ℕ × Slot _ _ _)). (1, awaiter_slot h.0) ∷ z) (sym (ap rest h.1))),
)
