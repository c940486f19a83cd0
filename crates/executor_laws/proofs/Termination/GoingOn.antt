-- For calls_end and lone_calls_end.
-- A party that has something to do can go on, unless it waits for the lock of the list; and whoever has that can go on.
use Rattle.std.proofs.Common.{◌≡◌, ◌∙◌, ℕ, zero, suc, ◌<◌, ◌≤◌, List, [], ◌∷◌, length, get_or, Bool, true, false, cond, not}
use Rattle.std.proofs.Common.{ltb, refl, sym, ap, subst, ⊎_elim, arith}
use Rattle.std.{proofs.lemmas.Bool.Decides.nat_tests, specs.Prelude.Option, specs.Prelude.Some, specs.Prelude.None}
use Rattle.executor_model.specs.{Steps.stack, Steps.start, Steps.top, Steps.unless, Steps.waits, OwnQueues.LockAgrees}
use Rattle.executor_model.specs.{OwnQueues.reads_of, OwnQueues.writes_of, Weights.weigh, Weights.weigh_all, World.Lock}
use Rattle.executor_model.proofs.{Steps.Lift.topped, Steps.Lists.weigh-append, Steps.Lists.weigh_all-below}
use Rattle.executor_model.proofs.{OwnQueues.OwnLocks.lock-agrees, Table.Spawning.in-range, Steps.Reached.Reached}
use Rattle.executor_laws.proofs.Types.{UserEnd, Answer, Kind, ListOp, Op, UserOp, Hint, Step, Go, StepError, NoSuch, WrongAnswer}
use Rattle.executor_model.specs.declared.step.StepError.TheVariants.{Waits}
use Rattle.executor_model.specs.Steps.{Machine, accepts, answer_refusal, below_top, go_refusal, is_locked_out, refusal, run}
use Rattle.executor_laws.specs.GoingOn.{GoesOn, HolderGoesOn, IsTaken, held_of}
use Rattle.executor_laws.proofs.Termination.Holding.{has-top, held-on-top, weigh_below}

-- how the user code on top may end
abbrev pub user_end : Op → UserEnd
user_end (Op.User (UserOp.Poll f)) = UserEnd.Polled Answer.Pending
user_end (Op.User (UserOp.PollOwn x)) = UserEnd.Polled Answer.Pending
user_end _ = UserEnd.Done

pub ends-so : (o : Op) → waits o ≡ true → accepts o (user_end o) ≡ true
ends-so (Op.User (UserOp.Poll f)) e = refl
ends-so (Op.User (UserOp.Drop f)) e = refl
ends-so (Op.User (UserOp.DropOutput f)) e = refl
ends-so (Op.User (UserOp.CallOutside x)) e = refl
ends-so (Op.User (UserOp.PollOwn x)) e = refl
ends-so (Op.User (UserOp.DropOwn r)) e = refl
ends-so _ e = absurd (cc)

allowed : (s : Machine) (p : ℕ) (r q : Option StepError) → p < length s.parties → r ≡ q →
    unless (ltb p (length s.parties)) NoSuch r ≡ q
allowed s p r q l e = let i : ltb p (length s.parties) ≡ true = grind (arith, nat_tests) in
    ap (λ (b : Bool). unless b NoSuch r) i ∙ e

-- no user code wants the lock
locked-goes : (l : Lock) (o : Op) → is_locked_out l o ≡ true → waits o ≡ false
locked-goes l (Op.List o) e = refl
locked-goes l _ e = absurd (cc)

refusal-is : (s : Machine) (p : ℕ) (o : Op) (h : Hint) (b : Bool) → p < length s.parties → top (stack s p) ≡ Some o →
    waits o ≡ false → is_locked_out s.world.lock o ≡ b →
    refusal s (Go p h) ≡ unless (not b) Waits None
refusal-is s p o h b l e n k = allowed s p (go_refusal s.world (top (stack s p))) (unless (not b) Waits None) l
    (ap (go_refusal s.world) e
    ∙ (ap (λ (c : Bool). unless (not c) WrongAnswer (unless (not (is_locked_out s.world.lock o)) Waits None)) n
    ∙ ap (λ (c : Bool). unless (not c) Waits None) k))

pub goes-on : (s : Machine) → GoesOn s
goes-on s p o l e = record {
  goes = λ n k h. refusal-is s p o h false l e n k;
  stays = λ k h. refusal-is s p o h true l e (locked-goes s.world.lock o k) k;
  end = user_end o;
  answers = λ n. allowed s p (answer_refusal (top (stack s p)) (user_end o)) None l
      (ap (λ (x : Option Op). answer_refusal x (user_end o)) e
      ∙ ap (λ (b : Bool). unless b WrongAnswer None) (ends-so o n));
}

-- who has the lock

-- it is what is next to do
pub held-top : (os : List Op) (o : Option Op) → top os ≡ o → weigh held_of (below_top os) ≡ 0 →
    1 ≤ weigh held_of os → (x : Op) × (top os ≡ Some x) × (1 ≤ held_of x)
held-top [] o e z l = absurd (omega (arith, l))
held-top (x ∷ xs) None e z l = absurd (has-top x xs e)
held-top (x ∷ xs) (Some o) e z l = (
  o,
  e,
  omega (arith, l, z, ap (weigh held_of) (topped (x ∷ xs) o e), weigh-append held_of (below_top (x ∷ xs)) (o ∷ [])),
)

below-of : (ss : List (List Op)) (p : ℕ) → weigh_below held_of ss ≡ 0 →
    weigh held_of (below_top (get_or ss p [])) ≡ 0
below-of [] p z = refl
below-of (s ∷ ss) zero z = omega (arith, z)
below-of (s ∷ ss) (suc p) z = below-of ss p (omega (arith, z))

-- one of the stacks that weigh something
holder-or : (s : List Op) (ss : List (List Op)) (n : ℕ) → weigh held_of s ≡ n →
    (n ≡ 0 → (p : ℕ) × (1 ≤ weigh held_of (get_or ss p []))) →
    (p : ℕ) × (1 ≤ weigh held_of (get_or (s ∷ ss) p []))
holder-or s ss (suc n) e later = (0, omega (arith, e))
holder-or s ss zero e later = let h : _ = later refl in (suc h.0, h.1)

holder : (ss : List (List Op)) → 1 ≤ weigh_all held_of ss → (p : ℕ) × (1 ≤ weigh held_of (get_or ss p []))
holder [] l = absurd (omega (arith, l))
holder (s ∷ ss) l = holder-or s ss (weigh held_of s) refl (λ e. holder ss (omega (arith, l, e)))

-- that waits for nothing

holding-goes : (o : Op) → 1 ≤ held_of o → waits o ≡ false
holding-goes (Op.User o) l = absurd (omega (arith, l))
holding-goes _ l = refl

pub holding-free : (l : Lock) (o : Op) → 1 ≤ held_of o → is_locked_out l o ≡ false
holding-free l (Op.List (ListOp.LockWrite s)) k = absurd (omega (arith, k))
holding-free l (Op.List (ListOp.LockRead x)) k = absurd (omega (arith, k))
holding-free l _ k = refl

is-held : (s : Machine) → LockAgrees s → IsTaken s.world.lock →
    1 ≤ weigh_all held_of s.parties
is-held s a k = ⊎_elim
    (λ (w : s.world.lock.writing ≡ true). omega (
      arith,
      a.writing,
      ap {B = ℕ} (λ (b : Bool). cond b 1 0) w,
      weigh_all-below writes_of held_of (λ o. omega arith) s.parties,
    ))
    (λ (r : 1 ≤ s.world.lock.readers). omega (
      arith,
      r,
      a.reading,
      weigh_all-below reads_of held_of (λ o. omega arith) s.parties,
    ))
    k

pub lock-here : (s : Machine) → Reached s → LockAgrees s
lock-here s r = subst LockAgrees (sym r.is) (lock-agrees r.limit r.kind r.parties r.steps)

-- what a party that has it does next
pub held-here : (s : Machine) (p : ℕ) → Reached s → 1 ≤ weigh held_of (stack s p) →
    (o : Op) × (top (stack s p) ≡ Some o) × (1 ≤ held_of o)
held-here s p r k = held-top (stack s p) (top (stack s p)) refl (below-of s.parties p (held-on-top s r)) k

pub holder-goes-on : (s : Machine) → Reached s → HolderGoesOn s
holder-goes-on s r = record {
  someone = λ k. holder s.parties (is-held s (lock-here s r) k);
  goes = λ p k h. (let x : _ = held-here s p r k in
      refusal-is s p x.0 h false (in-range s p x.0 x.1) x.1 (holding-goes x.0 x.2)
      (holding-free s.world.lock x.0 x.2));
}

pub every-holder-goes-on : (limit : ℕ) (kind : Kind) (parties : ℕ) (steps : List Step) → HolderGoesOn (run steps (start limit kind parties))
every-holder-goes-on limit kind parties steps = holder-goes-on (run steps (start limit kind parties))
    (record { limit = limit; kind = kind; parties = parties; steps = steps; is = refl })
