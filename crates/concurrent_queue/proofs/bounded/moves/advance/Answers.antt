use Rattle.std.proofs.Common.{rules, ap, sym, subst, ◌∙◌, ℕ, ◌≡◌, ◌≤◌, ◌+◌, ◌-◌, arith}
use Rattle.queue_steps.specs.Bounded.{IsPlaceWord, next_at}
use Rattle.concurrent_queue.proofs.BoundedFaces.{next_above}
use Rattle.concurrent_queue.proofs.BoundedKeeps.{advances}
use Rattle.concurrent_queue.proofs.bounded.moves.advance.Goals as goal

pub overflow_sub-new : goal.overflow_sub-new
overflow_sub-new g c =
    let shape = c.args.board.now.key in let old : ℕ = c.args.old in
    subst (λ (new : ℕ). old ≤ new) (sym c.requires.next) (next_above shape.capacity shape.mark shape.sound old)

pub fetch_add-requires : goal.fetch_add-requires
fetch_add-requires g c =
    let shape = c.args.board.now.key in let old : ℕ = c.args.old in let new : ℕ = c.args.new in
    let above : old ≤ new = subst (λ (z : ℕ). old ≤ z) (sym c.requires.next) (next_above shape.capacity shape.mark shape.sound old) in
    let whole : old + (new - old) ≡ new = omega arith in let seen = c.requires.seen.1 in (
      search rules,
      search rules,
      advances _ _ _ _ _ _ c.requires.seen.0 (ap (λ (w : ℕ). w + (new - old)) (sym seen) ∙ whole ∙ c.requires.next
          ∙ ap (next_at shape.capacity shape.mark) seen)
          (subst (IsPlaceWord shape.capacity shape.mark) seen c.requires.place),
    )
