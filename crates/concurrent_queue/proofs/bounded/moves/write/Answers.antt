use Rattle.std.proofs.Common.{rules, ap, ◌∙◌, sym, ◌+◌, ◌∷◌, inl, inr, ⊎_elim}
use Rattle.atomic_table.specs.Table.{rest}
use Rattle.concurrent_queue.proofs.BoundedKeeps.{publishes}
use Rattle.concurrent_queue.proofs.bounded.moves.write.Goals as goal

pub exchange-held-requires : goal.exchange-held-requires
exchange-held-requires g c = let has = c.requires.held in
    (search rules, (has.0, has.1 ∙ (λ i. (c.args.index, has.0) ∷ sym (ap rest has.1) i)))

pub store-requires : goal.store-requires
store-requires g c = let place = c.requires.place in let now = c.exchange-held.ensures.3 in (
  search rules,
  search rules,
  publishes _ _ _ _ _ c.args.index _ c.args.value _
      (⊎_elim (λ e. inl (ap (λ m. m.0.stage) now ∙ e)) (λ e. inr (ap (λ m. m.0.stage) now ∙ e)) c.requires.seen) (place.0
      ∙ ap (λ m. m.0.place) (sym now))
      (place.2 ∙ ap (λ m. m.0.word + 1) (sym now)) (ap (λ m. m.1) now),
)
