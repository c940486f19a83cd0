use Rattle.std.proofs.Common.{ℕ, ◌-◌, suc, ap, ◌∙◌, slice_set}
use Rattle.queue_steps.proofs.UnboundedLemmas.{last_has_room, set_last, one_block_or_more}
use Rattle.queue_steps.proofs.unbounded.push_onto_last.Goals as goal

pub push-requires : goal.push-requires
push-requires g c =
    let blocks = c.args.blocks.now.items in
    last_has_room (c.len-last.result - 1) blocks c.index_mut.result.now
    (ap (λ (n : ℕ). suc (n - 1)) (c.len-last.ensures ∙ c.args.blocks.now.ok.0)
    ∙ one_block_or_more blocks c.requires) c.requires c.index_mut.ensures.value

pub returns : goal.returns
returns g c =
    let blocks = c.args.blocks.now.items in
    ap (slice_set blocks (c.len-last.result - 1)) c.push.ensures
    ∙ set_last (c.len-last.result - 1) blocks c.index_mut.result.now c.args.value
    (ap (λ (n : ℕ). suc (n - 1)) (c.len-last.ensures ∙ c.args.blocks.now.ok.0)
    ∙ one_block_or_more blocks c.requires) c.index_mut.ensures.value
