-- For quiet_emptiness_is_exact.
-- At a quiet trace the executor is answered to be empty exactly where each accepted future is dropped.
use Rattle.std.proofs.Common.{◌≡◌, ◌⊎◌, ℕ, ◌<◌, ◌≤◌, List, [], ◌∷◌, ◌++◌, length, set, Bool, true, false, ◌&&◌, ◌||◌, not, refl}
use Rattle.std.proofs.Common.{sym, ap, ◌∙◌, subst, inl, inr, ⊎_elim, arith, get_or-set_same, ◌==◌}
use Rattle.std.specs.Prelude.{Option, Some, None, nat_lt}
use Rattle.std.{proofs.lemmas.Bool.Decides.nat_tests, proofs.lemmas.List.append_assoc}
use Rattle.executor_model.proofs.Types.{Kind, Call, Reply, Event, Op, TableOp, Hint, Step, Begin, Go, StepError, NoSuch, Gone}
use Rattle.executor_model.specs.Steps.{Machine, stack, top, step, step_by, stepped, refusal, unless, begin_refusal, part_after}
use Rattle.executor_model.specs.Trace.{Trace, has, is_accepted, is_dropped}
use Rattle.executor_model.specs.Steps.{with_part, run, start}
use Rattle.executor_model.specs.Emptiness.{Answers, AnswersAlone, AllDropped, IsAtRest, IsQuietEmptinessExact}
use Rattle.executor_model.specs.{World.log, Weights.weigh_all, Good.Good, Entries.Remains, Rows.leaking_of, Rows.leaves_of}
use Rattle.executor_model.proofs.Table.LeavingExecutions.{Placed, placed, placed-moves, placed-ends}
use Rattle.executor_model.proofs.Quiet.Resting.{Deep, deep, rests, all-rest}
use Rattle.executor_model.proofs.{Steps.Lists.weigh_all-set, Steps.Lift.good, Steps.Lift.good-stepped, Steps.Ways.along}
use Rattle.executor_model.proofs.{OneFuture.Telling.begun-has, Emptiness.Looking.emptiness-exact}

has-push : (test : Event → Bool) (es : Trace) (e : Event) → test e ≡ false → has test (es ++ e ∷ []) ≡ has test es
has-push test [] e z = ap (λ (b : Bool). b || false) z
has-push test (x ∷ es) e z = ap (λ (b : Bool). test x || b) (has-push test es e z)

-- the machine in which p has asked, and has still to look
abbrev pub asking : Machine → ℕ → Machine
asking s p =
    record {
      world = log s.world (Event.CallBegun p Call.IsEmpty);
      parties = set s.parties p (Op.Table TableOp.LookAtTable ∷ []);
    }

module _ (s : Machine) (p : ℕ) (l : p < length s.parties) (n : s.world.gone ≡ false) (e : stack s p ≡ [])
    (k : weigh_all leaking_of s.parties ≡ 0) where
  none-refused : refusal s (Begin p Call.IsEmpty) ≡ None
  none-refused =
      ap (λ (b : Bool). unless b NoSuch (begin_refusal s.world s.parties (top (stack s p)) Call.IsEmpty))
      (let z : nat_lt p (length s.parties) ≡ true = grind (arith, nat_tests) in z)
      ∙ (ap (λ (os : List Op). begin_refusal s.world s.parties (top os) Call.IsEmpty) e
      ∙ (ap (λ (b : Bool). unless (not (b && true)) Gone (unless (weigh_all leaking_of s.parties == 0) Gone None)) n
      ∙ ap (λ (m : ℕ). unless (m == 0) Gone None) k))

  begins-alone : stepped s (step s (Begin p Call.IsEmpty)) ≡ asking s p
  unfolding step
  begins-alone = ap (λ (x : Option StepError). stepped s (step_by x s (Begin p Call.IsEmpty))) none-refused
      ∙ ap (λ (os : List Op). with_part s p (part_after s.world os (Begin p Call.IsEmpty))) e

module _ (s : Machine) (fine : Good s) (h : Placed s) (d : Deep s) (rest : IsAtRest s) (p : ℕ)
    (l : p < length s.parties) where
  here : s.world.gone ≡ false
  here = sym (h.leaves 0).begun ∙ (begun-has 0 s.world.trace ∙ rest.there)

  idle : (q : ℕ) → stack s q ≡ []
  idle q = rests s d rest.quiet q

  began : stepped s (step s (Begin p Call.IsEmpty)) ≡ asking s p
  began = begins-alone s p l here (idle p) (all-rest leaking_of s.parties idle)

  fine-then : Good (asking s p)
  fine-then = subst Good began (good-stepped s (Begin p Call.IsEmpty) fine)

  placed-then : Placed (asking s p)
  placed-then = subst Placed began (along Placed placed-moves placed-ends (Begin p Call.IsEmpty ∷ []) s fine h)

  looks : top (stack (asking s p) p) ≡ Some (Op.Table TableOp.LookAtTable)
  looks = ap top (get_or-set_same s.parties p (Op.Table TableOp.LookAtTable ∷ []) [] l)

  none-leave : (f : ℕ) → weigh_all (leaves_of f) (asking s p).parties ≡ 0
  none-leave f =
      omega (
        arith,
        weigh_all-set (leaves_of f) s.parties p (Op.Table TableOp.LookAtTable ∷ []) l,
        all-rest (leaves_of f) s.parties idle,
      )

  alone : (t : Hint) (a : Reply) → Answers (asking s p) p t a → AnswersAlone s p t a
  alone t a q = ap (λ (m : Machine). (stepped m (step m (Go p t))).world.trace) began
      ∙ (q ∙ append_assoc s.world.trace (Event.CallBegun p Call.IsEmpty ∷ []) (Event.CallEnded p a ∷ []))

  asked : (t : Hint) (a : Reply) → AnswersAlone s p t a → Answers (asking s p) p t a
  asked t a q = sym (ap (λ (m : Machine). (stepped m (step m (Go p t))).world.trace) began)
      ∙ (q ∙ sym (append_assoc s.world.trace (Event.CallBegun p Call.IsEmpty ∷ []) (Event.CallEnded p a ∷ [])))

  answers-one : (t : Hint) → AnswersAlone s p t Reply.Yes ⊎ AnswersAlone s p t Reply.No
  answers-one t = ⊎_elim (λ q. inl (alone t Reply.Yes q)) (λ q. inr (alone t Reply.No q))
      ((emptiness-exact (asking s p) fine-then placed-then).answered p t looks)

  none-remains : AllDropped s.world.trace → (f : ℕ) → ¬ Remains f (asking s p)
  none-remains k f m =
      let a : has (is_accepted f) s.world.trace ≡ true =
      sym (has-push (is_accepted f) s.world.trace (Event.CallBegun p Call.IsEmpty) refl) ∙ m.accepted in
      let x : has (is_dropped f) s.world.trace ≡ true = k f a in
      ⊎_elim
      (λ (u : has (is_dropped f) (asking s p).world.trace ≡ false).
      let no : true ≡ false = sym x
      ∙ (sym (has-push (is_dropped f) s.world.trace (Event.CallBegun p Call.IsEmpty) refl) ∙ u) in absurd (cc))
      (λ (u : 1 ≤ weigh_all (leaves_of f) (asking s p).parties). absurd (omega (arith, u, none-leave f)))
      m.remains

  answers-yes : (t : Hint) → AllDropped s.world.trace → AnswersAlone s p t Reply.Yes
  answers-yes t k = alone t Reply.Yes
      ((emptiness-exact (asking s p) fine-then placed-then).always p t looks (none-remains k))

  dropped-by : (f : ℕ) → ¬ Remains f (asking s p) → has (is_accepted f) s.world.trace ≡ true → (b : Bool) →
      has (is_dropped f) s.world.trace ≡ b → has (is_dropped f) s.world.trace ≡ true
  dropped-by f k a true q = q
  dropped-by f k a false q =
      absurd
      (k
      (record {
        accepted = has-push (is_accepted f) s.world.trace (Event.CallBegun p Call.IsEmpty) refl ∙ a;
        remains = inl (has-push (is_dropped f) s.world.trace (Event.CallBegun p Call.IsEmpty) refl ∙ q);
      }))

  all-dropped : (t : Hint) → AnswersAlone s p t Reply.Yes → AllDropped s.world.trace
  all-dropped t q f a = dropped-by f
      ((emptiness-exact (asking s p) fine-then placed-then).only p t looks (asked t Reply.Yes q) f) a _ refl

pub quiet-emptiness : (s : Machine) → Good s → Placed s → Deep s → IsQuietEmptinessExact s
quiet-emptiness s fine h d = record {
  answered = λ r p t l. answers-one s fine h d r p l t;
  always = λ r p t l k. answers-yes s fine h d r p l t k;
  only = λ r p t l q. all-dropped s fine h d r p l t q;
}

pub quiet-empties : (limit : ℕ) (kind : Kind) (parties : ℕ) (steps : List Step) →
    IsQuietEmptinessExact (run steps (start limit kind parties))
quiet-empties limit kind parties steps = quiet-emptiness (run steps (start limit kind parties)) (good limit kind parties steps)
    (placed limit kind parties steps) (deep limit kind parties steps)
