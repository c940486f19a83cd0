use Rattle.std.proofs.Common.{rules, ap, ◌∙◌, sym, ℕ, ◌+◌, ◌*◌, ◌∷◌, Some}
use Rattle.atomic_table.specs.Table.{rest}
use Rattle.concurrent_queue.proofs.BoundedKeeps.{releases}
use Rattle.concurrent_queue.proofs.bounded.moves.read.Goals as goal

pub exchange-item-requires : goal.exchange-item-requires
exchange-item-requires g c = let has = c.requires.held in
    (search rules, (Some has.0, has.1 ∙ (λ i. (c.args.index, Some has.0) ∷ sym (ap rest has.1) i)))

pub store-requires : goal.store-requires
store-requires g c = let place = c.requires.place in let now = c.exchange-item.ensures.3 in let lap : ℕ = 2 * c.args.board.now.key.mark in (
  search rules,
  search rules,
  releases _ _ _ _ _ c.args.index _ _ (ap (λ m. m.0.stage) now ∙ c.requires.seen) (place.0 ∙ ap (λ m. m.0.place) (sym now)) (place.2
      ∙ ap (λ m. m.0.word + lap) (sym now)) (ap (λ m. m.1) now),
)
