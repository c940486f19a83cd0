-- For emptiness_is_exact and quiet_emptiness_is_exact.
-- Whether the executor is empty is answered as it is.
use Rattle.std.proofs.Common.{◌≡◌, ◌⊎◌, ℕ, zero, suc, ◌<◌, List, [], ◌∷◌, ◌++◌, length, Bool, true, refl, sym, ap, ◌∙◌, subst}
use Rattle.std.proofs.Common.{inl, inr, ⊎_elim, arith}
use Rattle.std.specs.Prelude.{Option, None, nat_lt}
use Rattle.std.{proofs.lemmas.Bool.Decides.nat_tests, proofs.lemmas.List.append_cancel_left}
use Rattle.executor_model.proofs.Types.{Kind, Reply, Event, Hold, Op, TableOp, Hint, Step, Go, StepError, NoSuch}
use Rattle.executor_model.specs.Steps.{Machine, stack, top, below_top, step, step_by, stepped, refusal, go_refusal, unless}
use Rattle.executor_model.specs.Emptiness.{Looks, Answers, IsEmptinessExact}
use Rattle.executor_model.specs.{Trace.Trace, Acts.emptiness, Doing.act, Rows.borrowing_of, Sound.times, Good.Good}
use Rattle.executor_model.specs.{Steps.gone_on, Steps.run, Steps.start, Entries.HasTable, Entries.Remains}
use Rattle.executor_model.proofs.Steps.Lift.{split, topped, good}
use Rattle.executor_model.proofs.Table.LeavingExecutions.{Placed, placed}
use Rattle.executor_model.proofs.Table.Spawning.{top-last, ended-trace, in-range, has-table-by}
use Rattle.executor_model.proofs.{Steps.Cases.by_list, Steps.Lists.same_is, Table.Entering.table-agrees}

look-trace : (s : Machine) (p : ℕ) (h : Hint) → p < length s.parties → Looks s p →
    Answers s p h (emptiness s.world.table)
unfolding step
look-trace s p h l e =
    let r : refusal s (Go p h) ≡ None =
    ap (λ (b : Bool). unless b NoSuch (go_refusal s.world (top (stack s p))))
    (let z : nat_lt p (length s.parties) ≡ true = grind (arith, nat_tests) in z) ∙ ap (go_refusal s.world) e in
    ap (λ (x : Option StepError). (stepped s (step_by x s (Go p h))).world.trace) r
    ∙ (ap (λ (o : Option Op). (gone_on p s.world (stack s p) o (λ x. act p h x s.world)).world.trace) e
    ∙ ended-trace p s.world (below_top (stack s p) ++ Op.End (emptiness s.world.table) Hold.Executor ∷ [])
    (emptiness s.world.table) Hold.Executor
    (top-last (below_top (stack s p)) (Op.End (emptiness s.world.table) Hold.Executor)))

yes-or-no : (xs : List ℕ) → (emptiness xs ≡ Reply.Yes) ⊎ (emptiness xs ≡ Reply.No)
yes-or-no [] = inl refl
yes-or-no (x ∷ xs) = inr refl

none-there : (xs : List ℕ) → ((f : ℕ) → times f xs ≡ 0) → emptiness xs ≡ Reply.Yes
none-there = by_list _
    (λ k. refl)
    (λ x xs k. absurd (let z : times x (x ∷ xs) ≡ 0 = k x in grind (arith, same_is)))

says-yes : (xs : List ℕ) (p : ℕ) (es : Trace) →
    es ++ Event.CallEnded p (emptiness xs) ∷ [] ≡ es ++ Event.CallEnded p Reply.Yes ∷ [] → (f : ℕ) → times f xs ≡ 0
says-yes [] p es e f = refl
says-yes (x ∷ xs) p es e f =
    let z : Event.CallEnded p Reply.No ∷ [] ≡ Event.CallEnded p Reply.Yes ∷ [] = append_cancel_left es _ _ e in
    absurd (cc)

module _ (s : Machine) (fine : Good s) (h : Placed s) where
  has-table : (p : ℕ) → Looks s p → HasTable s
  has-table p e = has-table-by s fine h
      (omega (
        arith,
        split borrowing_of s.parties p (Op.Table TableOp.LookAtTable ∷ []) (below_top (stack s p))
            (in-range s p (Op.Table TableOp.LookAtTable) e) (topped (stack s p) (Op.Table TableOp.LookAtTable) e),
      ))

  said : (p : ℕ) (t : Hint) → Looks s p → Answers s p t (emptiness s.world.table)
  said p t e = look-trace s p t (in-range s p (Op.Table TableOp.LookAtTable) e) e

  nobody : (p : ℕ) → Looks s p → ((f : ℕ) → ¬ Remains f s) → (f : ℕ) (n : ℕ) → times f s.world.table ≡ n →
      times f s.world.table ≡ 0
  nobody p e k f zero q = q
  nobody p e k f (suc n) q = absurd (k f ((table-agrees s f fine h).only (has-table p e) (omega (arith, q))))

  pub emptiness-exact : IsEmptinessExact s
  emptiness-exact = record {
    answered = λ p t e. ⊎_elim (λ q. inl (subst (Answers s p t) q (said p t e)))
        (λ q. inr (subst (Answers s p t) q (said p t e))) (yes-or-no s.world.table);
    always = λ p t e k. subst (Answers s p t) (none-there s.world.table (λ f. nobody p e k f _ refl)) (said p t e);
    only = λ p t e q f m. let z : times f s.world.table ≡ 0 =
        says-yes s.world.table p s.world.trace (sym (said p t e) ∙ q) f in
        omega (arith, z, (table-agrees s f fine h).entered (has-table p e) m);
  }

pub empties : (limit : ℕ) (kind : Kind) (parties : ℕ) (steps : List Step) → IsEmptinessExact (run steps (start limit kind parties))
empties limit kind parties steps = emptiness-exact (run steps (start limit kind parties)) (good limit kind parties steps)
    (placed limit kind parties steps)
