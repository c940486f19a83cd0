use Rattle.std.proofs.Common.{rules, ap, ◌∙◌, sym, ◌∷◌, Some}
use Rattle.atomic_table.specs.Table.{rest}
use Rattle.concurrent_queue.proofs.SingleKeeps.{takes_item, read}
use Rattle.concurrent_queue.proofs.single.moves.read.Goals as goal

pub compare_exchange-found-requires : goal.compare_exchange-found-requires
compare_exchange-found-requires g c = let word = c.requires.word in (search rules, search rules, takes_item _ _ _ _ _ word.0 word.1)

pub exchange-item-requires : goal.exchange-item-requires
exchange-item-requires g c = let took = c.compare_exchange-found.ensures.2.0 c.if-found-old.false in let has = ap (λ m. m.1) took.1 in
    (search rules, (Some took.0, has ∙ (λ i. (0, Some took.0) ∷ sym (ap rest has) i)))

pub fetch_sub-left-requires : goal.fetch_sub-left-requires
fetch_sub-left-requires g c = let took = c.compare_exchange-found.ensures.2.0 c.if-found-old.false in
    let now = c.exchange-item.ensures.3 in (
      search rules,
      search rules,
      read _ _ _ _ (ap (λ m. m.0.stage) now ∙ ap (λ m. m.0.stage) took.1) (ap (λ m. m.1) now),
    )
