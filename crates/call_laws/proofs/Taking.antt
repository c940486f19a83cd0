-- For whoever_has_something_to_do_goes_on and answers_of_user_code_are_taken.
-- Why a party can't go on, and which answers of its user code are taken.
use Rattle.std.proofs.Common.{◌≡◌, ◌≢◌, ◌∙◌, ◌⊎◌, inl, inr, ⊎_elim, ℕ, zero, suc, ◌<◌, ◌≤◌, List, [], ◌∷◌, length, get_or}
use Rattle.std.proofs.Common.{Bool, true, false, ◌||◌, not}
use Rattle.std.proofs.Common.{cond, eqb, ltb, refl, sym, ap, subst, arith}
use Rattle.std.proofs.lemmas.Bool.Decides.{nat_tests}
use Rattle.std.specs.Prelude.{Option, Some, None}
use Rattle.call_laws.proofs.Types.{Hint, Kind, ListOp, Op, Step, Go, NoSuch, UserEnd, UserOp, WrongAnswer}
use Rattle.executor_model.specs.declared.step.Step.TheVariants.{Answer}
use Rattle.executor_model.specs.declared.step.StepError.TheVariants.{Waits}
use Rattle.executor_model.specs.OwnQueues.{LockAgrees, reads_of, writes_of}
use Rattle.executor_model.specs.Steps.{Machine, accepts, after, answer_refusal, go_refusal, is_locked_out, refusal, run}
use Rattle.executor_model.specs.Steps.{stack, start, step, step_by}
use Rattle.executor_model.specs.Steps.{top, unless, waits}
use Rattle.executor_model.specs.Weights.{weigh, weigh_all}
use Rattle.executor_model.proofs.Steps.Reached.{Reached}
use Rattle.executor_model.proofs.Steps.Tests.{or-left, or-right}
use Rattle.executor_model.proofs.Steps.Lists.{weigh-below}
use Rattle.executor_laws.specs.GoingOn.{held_of}
use Rattle.executor_laws.proofs.Termination.GoingOn.{ends-so as may-end, goes-on, holder-goes-on, lock-here, user_end}
use Rattle.call_laws.specs.Steps.{AnswersAreTaken, Ends, Goes, GoesAreTaken, WaitsFor, WaitsForOther}
use Rattle.call_laws.specs.Steps.WaitsFor.{to_walk, to_write}
use Rattle.call_laws.specs.UserCode.{EndsSo, IsUserCode}
use Rattle.call_laws.specs.UserCode.EndsSo.{drop, output_drop, own_drop, own_poll, poll, waker_call}
use Rattle.call_laws.specs.Steps.Ends.{ends, idle as idle_ends, nobody as nobody_ends, unfit}
use Rattle.call_laws.specs.Steps.Goes.{goes, idle as idle_goes, in_code, nobody as nobody_goes, waits as waits_there}

pub not-below : (p n : ℕ) → ltb p n ≡ false → ¬ (p < n)
not-below p n e k = grind (arith, nat_tests)

pub below : (p n : ℕ) → ltb p n ≡ true → p < n
below p n e = grind (arith, nat_tests)

pub not-both : (b : Bool) → b ≡ true → b ≡ false → ⊥
not-both true e f = absurd (cc)
not-both false e f = absurd (cc)

-- user code

pub ends-so : (o : Op) (e : UserEnd) → accepts o e ≡ true → EndsSo o e
ends-so (Op.User (UserOp.Poll f)) (UserEnd.Polled a) k = poll f a
ends-so (Op.User (UserOp.PollOwn x)) (UserEnd.Polled a) k = own_poll x a
ends-so (Op.User (UserOp.Drop f)) UserEnd.Done k = drop f
ends-so (Op.User (UserOp.DropOutput f)) UserEnd.Done k = output_drop f
ends-so (Op.User (UserOp.CallOutside x)) UserEnd.Done k = waker_call x
ends-so (Op.User (UserOp.DropOwn r)) UserEnd.Done k = own_drop r
ends-so _ _ k = absurd (cc)

accepted : {o : Op} {e : UserEnd} → EndsSo o e → accepts o e ≡ true
accepted (poll f a) = refl
accepted (own_poll x a) = refl
accepted (drop f) = refl
accepted (output_drop f) = refl
accepted (waker_call x) = refl
accepted (own_drop r) = refl

waiting : {o : Op} {e : UserEnd} → EndsSo o e → waits o ≡ true
waiting (poll f a) = refl
waiting (own_poll x a) = refl
waiting (drop f) = refl
waiting (output_drop f) = refl
waiting (waker_call x) = refl
waiting (own_drop r) = refl

pub is-code : (o : Op) → waits o ≡ true → IsUserCode o
is-code o e = (user_end o, ends-so o (user_end o) (may-end o e))

pub no-code : (o : Op) → waits o ≡ false → ¬ IsUserCode o
no-code o e k = not-both (waits o) (waiting k.1) e

ends-by : (s : Machine) (p : ℕ) (e : UserEnd) (b : Bool) (o : Option Op) → ltb p (length s.parties) ≡ b → top (stack s p) ≡ o →
    Ends s p e (step_by (unless b NoSuch (answer_refusal o e)) s (Answer p e))
ends-by s p e false o l t = nobody_ends (not-below p (length s.parties) l)
ends-by s p e true None l t = idle_ends (below p (length s.parties) l) t
ends-by s p e true (Some o) l t = by (accepts o e) refl
  where
    by : (c : Bool) → accepts o e ≡ c → Ends s p e (step_by (unless c WrongAnswer None) s (Answer p e))
    by false z = unfit o (below p (length s.parties) l) t (λ k. not-both (accepts o e) (accepted k) z)
    by true z = ends o (below p (length s.parties) l) t (ends-so o e z) (after s (Answer p e))

pub answers-are-taken : (s : Machine) → AnswersAreTaken s
unfolding step
answers-are-taken s p e = ends-by s p e (ltb p (length s.parties)) (top (stack s p)) refl refl

-- the lock of the list

pub one-of : (v : Op → ℕ) (ss : List (List Op)) (q : ℕ) → weigh v (get_or ss q []) ≤ weigh_all v ss
one-of v [] q = omega arith
one-of v (s ∷ ss) zero = omega arith
one-of v (s ∷ ss) (suc q) = omega (arith, one-of v ss q)

some-or : (v : Op → ℕ) (s : List Op) (ss : List (List Op)) (n : ℕ) → weigh v s ≡ n →
    (n ≡ 0 → (q : ℕ) × (1 ≤ weigh v (get_or ss q []))) → (q : ℕ) × (1 ≤ weigh v (get_or (s ∷ ss) q []))
some-or v s ss (suc n) e later = (0, omega (arith, e))
some-or v s ss zero e later = let h : _ = later refl in (suc h.0, h.1)

pub some-of : (v : Op → ℕ) (ss : List (List Op)) → 1 ≤ weigh_all v ss → (q : ℕ) × (1 ≤ weigh v (get_or ss q []))
some-of v [] l = absurd (omega (arith, l))
some-of v (s ∷ ss) l = some-or v s ss (weigh v s) refl (λ e. some-of v ss (omega (arith, l, e)))

locked : {o : Op} → (s : Machine) (q : ℕ) → LockAgrees s → WaitsFor s q o → is_locked_out s.world.lock o ≡ true
locked s q k (to_write x w) = ⊎_elim
    (λ (a : 1 ≤ weigh writes_of (stack s q)).
    or-left s.world.lock.writing (not (eqb s.world.lock.readers 0)) (writer s q k a))
    (λ (a : 1 ≤ weigh reads_of (stack s q)).
    or-right s.world.lock.writing (not (eqb s.world.lock.readers 0))
    (some-reads s.world.lock.readers (omega (arith, a, one-of reads_of s.parties q, k.reading)))) w
  where
    some-reads : (n : ℕ) → 1 ≤ n → not (eqb n 0) ≡ true
    some-reads n l = grind (arith, nat_tests)

    is-on : (b : Bool) (n : ℕ) → n ≡ cond b 1 0 → 1 ≤ n → b ≡ true
    is-on true n e l = refl
    is-on false n e l = absurd (omega (arith, e, l))

    writer : (s : Machine) (q : ℕ) → LockAgrees s → 1 ≤ weigh writes_of (stack s q) → s.world.lock.writing ≡ true
    writer s q k a = is-on s.world.lock.writing (weigh_all writes_of s.parties) k.writing (omega (arith, a, one-of writes_of s.parties q))
locked s q k (to_walk x a) = is-on s.world.lock.writing (weigh_all writes_of s.parties) k.writing
    (omega (arith, a, one-of writes_of s.parties q))
  where
    is-on : (b : Bool) (n : ℕ) → n ≡ cond b 1 0 → 1 ≤ n → b ≡ true
    is-on true n e l = refl
    is-on false n e l = absurd (omega (arith, e, l))

-- whoever keeps it out is another party
module _ (s : Machine) (r : Reached s) (p : ℕ) (o : Op) (l : p < length s.parties) (t : top (stack s p) ≡ Some o)
    (z : is_locked_out s.world.lock o ≡ true) (h : Hint) where
  other : (q : ℕ) → 1 ≤ weigh held_of (stack s q) → p ≢ q
  other q k e =
      let a : refusal s (Go p h) ≡ Some Waits = (goes-on s p o l t).stays z h in
      let b : refusal s (Go p h) ≡ None =
      subst (λ (n : ℕ). refusal s (Go n h) ≡ None) (sym e) ((holder-goes-on s r).goes q k h) in
      let no : Some Waits ≡ None = sym a ∙ b in absurd (cc)

  writes : s.world.lock.writing ≡ true → (q : ℕ) × (p ≢ q) × (1 ≤ weigh writes_of (stack s q))
  writes w =
      let k = some-of writes_of s.parties (omega (arith, (lock-here s r).writing, ap {B = ℕ} (λ (b : Bool). cond b 1 0) w)) in
      (k.0, other k.0 (omega (arith, k.1, weigh-below writes_of held_of (λ x. omega arith) (stack s k.0))), k.1)

  reads : 1 ≤ s.world.lock.readers → (q : ℕ) × (p ≢ q) × (1 ≤ weigh reads_of (stack s q))
  reads w =
      let k = some-of reads_of s.parties (omega (arith, (lock-here s r).reading, w)) in
      (k.0, other k.0 (omega (arith, k.1, weigh-below reads_of held_of (λ x. omega arith) (stack s k.0))), k.1)

none-written : (b : Bool) (n : ℕ) → (b || not (eqb n 0)) ≡ true → (b ≡ true) ⊎ (1 ≤ n)
none-written true n e = inl refl
none-written false n e = inr (grind (arith, nat_tests))

waits-for : (s : Machine) → Reached s → (p : ℕ) (o : Op) → p < length s.parties → top (stack s p) ≡ Some o →
    is_locked_out s.world.lock o ≡ true → Hint → WaitsForOther p o s
waits-for s r p (Op.List (ListOp.LockWrite x)) l t z h = ⊎_elim
    (λ (w : s.world.lock.writing ≡ true).
    let k = writes s r p (Op.List (ListOp.LockWrite x)) l t z h w in (k.0, k.1, to_write x (inl k.2)))
    (λ (w : 1 ≤ s.world.lock.readers).
    let k = reads s r p (Op.List (ListOp.LockWrite x)) l t z h w in (k.0, k.1, to_write x (inr k.2)))
    (none-written s.world.lock.writing s.world.lock.readers z)
waits-for s r p (Op.List (ListOp.LockRead x)) l t z h =
    let k = writes s r p (Op.List (ListOp.LockRead x)) l t z h z in (k.0, k.1, to_walk x k.2)
waits-for s r p _ l t z h = absurd (cc)

goes-by : (s : Machine) → Reached s → (p : ℕ) (h : Hint) (b : Bool) (o : Option Op) → ltb p (length s.parties) ≡ b → top (stack s p) ≡ o →
    Goes s p (step_by (unless b NoSuch (go_refusal s.world o)) s (Go p h))
goes-by s r p h false o l t = nobody_goes (not-below p (length s.parties) l)
goes-by s r p h true None l t = idle_goes (below p (length s.parties) l) t
goes-by s r p h true (Some o) l t = by (waits o) refl (is_locked_out s.world.lock o) refl
  where
    party : p < length s.parties
    party = below p (length s.parties) l

    by : (c : Bool) → waits o ≡ c → (d : Bool) → is_locked_out s.world.lock o ≡ d →
        Goes s p (step_by (unless (not c) WrongAnswer (unless (not d) Waits None)) s (Go p h))
    by true z d k = in_code o party t (is-code o z)
    by false z true k = waits_there o party t (waits-for s r p o party t k h)
    by false z false k = goes o party t (no-code o z)
        (λ x. not-both (is_locked_out s.world.lock o) (locked s x.0 (lock-here s r) x.2) k) (after s (Go p h))

pub goes-are-taken : (s : Machine) → Reached s → GoesAreTaken s
unfolding step
goes-are-taken s r p h = goes-by s r p h (ltb p (length s.parties)) (top (stack s p)) refl refl

pub every-go : (limit : ℕ) (kind : Kind) (parties : ℕ) (steps : List Step) → GoesAreTaken (run steps (start limit kind parties))
every-go limit kind parties steps = goes-are-taken (run steps (start limit kind parties))
    (record { limit = limit; kind = kind; parties = parties; steps = steps; is = refl })

pub every-answer : (limit : ℕ) (kind : Kind) (parties : ℕ) (steps : List Step) → AnswersAreTaken (run steps (start limit kind parties))
every-answer limit kind parties steps = answers-are-taken (run steps (start limit kind parties))
