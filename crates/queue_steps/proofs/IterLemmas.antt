-- A walk of an iterator over an `Exclusive` queue, from call to call.
use Rattle.std.proofs.Common.{[], ◌∷◌, refl, ap, subst, ◌∙◌}
use Rattle.queue_steps.specs.declared.exclusive_iter.ExclusiveIter.{ExclusiveIter}
use Rattle.queue_steps.specs.ClosableQueue.{ClosableQueue}
use Rattle.queue_steps.specs.ExclusiveIter.{IterGave, IterWalks}

module _ {T : Type 0} where
  pub walks : (first : ExclusiveIter T) → IterWalks first
  walks first [] later run = subst (IterGave first []) run (refl, refl)
  walks first (item ∷ items) later run =
      let step = run.1.1 in
      let rest = walks run.0 items later run.2 in
      (rest.0 ∙ step.0, step.1 ∙ ap (λ (q : ClosableQueue T). record q { items = item ∷ q.items }) rest.1)
