use Rattle.std.proofs.Common.{rules, ap, ◌∙◌, sym, ◌∷◌}
use Rattle.atomic_table.specs.Table.{rest}
use Rattle.concurrent_queue.proofs.SingleKeeps.{claims, written}
use Rattle.concurrent_queue.proofs.single.moves.write.Goals as goal

pub compare_exchange-found-requires : goal.compare_exchange-found-requires
compare_exchange-found-requires g c = let word = c.requires.word in (search rules, search rules, claims _ _ _ _ _ word.0 word.1 word.2)

pub exchange-held-requires : goal.exchange-held-requires
exchange-held-requires g c = let did = c.compare_exchange-found.ensures.2.0 c.if-found-old.false in let has = ap (λ m. m.1) did.2 in
    (search rules, (did.0, has ∙ (λ i. (0, did.0) ∷ sym (ap rest has) i)))

pub fetch_sub-last-requires : goal.fetch_sub-last-requires
fetch_sub-last-requires g c =
    let did = c.compare_exchange-found.ensures.2.0 c.if-found-old.false in let now = c.exchange-held.ensures.3 in (
      search rules,
      search rules,
      written _ _ _ c.args.value _ (ap (λ m. m.0.stage) now ∙ ap (λ m. m.0.stage) did.2) (ap (λ m. m.1) now),
    )
