use Rattle.std.proofs.Common.{◌≡◌, ℕ, zero, suc, ◌+◌, List, [], ◌∷◌, ◌++◌, length, refl, sym, subst, ap, ◌∙◌, arith}
use Rattle.call_steps.specs.Closing.{closing}
use Rattle.call_steps.specs.Fitting.{Fits}
use Rattle.call_steps.specs.Todo.{following, top}
use Rattle.call_steps.specs.declared.reply.Reply.TheVariants as reply
use Rattle.call_steps.specs.declared.saw.Saw.TheVariants as saw
use Rattle.call_steps.specs.declared.step.CallStep.{CallStep}
use Rattle.call_steps.specs.declared.step.CallStep.TheVariants as step
use Rattle.call_steps.specs.declared.step.table.ClosingStep.TheVariants as closing_step
use Rattle.async_executor.proofs.deeds.Steps.drop_next.Goals as goal

module _ {F T : Type 0} where
  -- where an entry is left, its future is dropped next
  goes_on :
      (entries wakers rest : ℕ) (behind : List (CallStep F T))
      → entries ≡ rest + 1 → closing entries wakers ++ behind ≡ step.Closing closing_step.DropNext ∷ behind
  goes_on zero wakers rest behind e = absurd (omega (arith, e))
  goes_on (suc entries) wakers rest behind e = refl

pub follow-requires-2 : goal.follow-requires-2
follow-requires-2 g c =
    subst (λ todo. Fits (top todo) saw.Nothing)
    (sym
    (c.follow.ensures
    ∙ ap (following _) (c.requires ∙ goes_on _ _ (length c.leave_first.new.table.entries) _ c.in_ok-future.ensures.some)))
    tt

pub returns-clause-steps : goal.returns-clause-steps
returns-clause-steps g c =
    subst (λ n. c.follow-2.new.self ≡ closing n (length c.keep-name.new.self.wakers.items) ++ step.End reply.Done ∷ [])
    c.len.ensures.len
    (subst (λ m. c.follow-2.new.self ≡ closing c.len.result m ++ step.End reply.Done ∷ []) c.len-2.ensures
    (c.follow-2.ensures
    ∙ ap (following saw.Nothing)
    (c.follow.ensures
    ∙ ap (following _) (c.requires ∙ goes_on _ _ (length c.leave_first.new.table.entries) _ c.in_ok-future.ensures.some))))
