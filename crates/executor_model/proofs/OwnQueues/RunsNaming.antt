-- For own_queues_agree.
-- Which polls the parts of a run's poll name.
use Rattle.std.proofs.Common.{◌≡◌, ◌≢◌, ℕ, ◌≤◌, List, [], ◌∷◌, Bool, true, false, eqb, cond, refl, ap, ⊎_elim, arith}
use Rattle.executor_model.proofs.Types.{ListOp, Op, RunOp, RunPoll, Section, TickOrRun, StealOp, TickOp, UserOp, Waker}
use Rattle.executor_model.specs.Weights.{same, is_run, weigh}
use Rattle.executor_model.proofs.OwnQueues.RunsCalm.{part_of, part_section, part_who}
use Rattle.executor_model.proofs.{Steps.Lists.same_cases, OwnQueues.Using.polling_of, OwnQueues.Using.polling_section}

-- a part of a poll of run r that isn't poll k

abbrev pub stray : ℕ → ℕ → ℕ → ℕ → ℕ
stray r k q n = cond (eqb r q) (cond (eqb k n) 0 1) 0

abbrev pub strays : ℕ → ℕ → RunPoll → ℕ
strays r k x = stray r k x.run x.poll

abbrev pub stray_of : ℕ → ℕ → Op → ℕ
stray_of r k o = part_of (strays r k) o

-- a part of any poll of run r

polling-who : (r : ℕ) (who : TickOrRun) (a : Waker) (k : ℕ) → part_who (λ x. same r x.run) who a k ≡ is_run r who
polling-who r (TickOrRun.Tick t) a k = refl
polling-who r (TickOrRun.Run q) a k = refl

polling-part : (r : ℕ) (o : Op) → part_of (λ x. same r x.run) o ≡ polling_of r o
polling-part r (Op.Tick (TickOp.Search s)) = polling-who r s.who s.waker s.poll
polling-part r (Op.Tick (TickOp.Look s look)) = polling-who r s.who s.waker s.poll
polling-part r (Op.Tick (TickOp.CopyWaker s)) = polling-who r s.who s.waker s.poll
polling-part r (Op.Tick (TickOp.FallAsleep s)) = polling-who r s.who s.waker s.poll
polling-part r (Op.List (ListOp.LockWrite (Section.Register x))) = refl
polling-part r (Op.List (ListOp.Write (Section.Register x))) = refl
polling-part r (Op.Steal (StealOp.Length s)) = refl
polling-part r (Op.Run RunOp.MakeRoom) = refl
polling-part r (Op.User (UserOp.PollOwn x)) = refl
polling-part r _ = refl

pub polling-parts : (r : ℕ) (os : List Op) → weigh (part_of (λ x. same r x.run)) os ≡ weigh (polling_of r) os
polling-parts r [] = refl
polling-parts r (o ∷ os) = omega (arith, polling-part r o, polling-parts r os)

few : (r k q n : ℕ) → stray r k q n ≤ same r q
few r k q n = ⊎_elim
    (λ (x : (same r q ≡ 1) × (eqb r q ≡ true) × (r ≡ q)).
    omega (arith, x.0, ap {B = ℕ} (λ (b : Bool). cond b (cond (eqb k n) 0 1) 0) x.1, one (eqb k n)))
    (λ (x : (same r q ≡ 0) × (eqb r q ≡ false) × (r ≢ q)).
    omega (arith, x.0, ap {B = ℕ} (λ (b : Bool). cond b (cond (eqb k n) 0 1) 0) x.1))
    (same_cases r q)
  where
    one : (b : Bool) → cond b 0 1 ≤ 1
    one true = omega arith
    one false = omega arith

few-who : (r k : ℕ) (who : TickOrRun) (a : Waker) (n : ℕ) → part_who (strays r k) who a n ≤ is_run r who
few-who r k (TickOrRun.Tick t) a n = omega arith
few-who r k (TickOrRun.Run q) a n = few r k q n

few-section : (r k : ℕ) (s : Section) → part_section (strays r k) s ≤ polling_section r s
few-section r k Section.MakeRun = omega arith
few-section r k (Section.Register x) = few r k x.run x.poll
few-section r k (Section.Unregister q a) = omega arith

-- it is a part of a poll of r
pub stray-polls : (r k : ℕ) (o : Op) → stray_of r k o ≤ polling_of r o
stray-polls r k (Op.User (UserOp.PollOwn x)) = few r k x.run x.poll
stray-polls r k (Op.Tick (TickOp.Search s)) = few-who r k s.who s.waker s.poll
stray-polls r k (Op.Tick (TickOp.Look s look)) = few-who r k s.who s.waker s.poll
stray-polls r k (Op.Tick (TickOp.CopyWaker s)) = few-who r k s.who s.waker s.poll
stray-polls r k (Op.Tick (TickOp.FallAsleep s)) = few-who r k s.who s.waker s.poll
stray-polls r k (Op.List (ListOp.LockWrite s)) = few-section r k s
stray-polls r k (Op.List (ListOp.Write s)) = few-section r k s
stray-polls r k (Op.List (ListOp.LockRead x)) = few r k x.run x.poll
stray-polls r k (Op.Steal (StealOp.Length s)) = few r k s.poll.run s.poll.poll
stray-polls r k (Op.Steal (StealOp.OwnLength s n)) = few r k s.poll.run s.poll.poll
stray-polls r k (Op.Steal (StealOp.Take s more)) = few r k s.poll.run s.poll.poll
stray-polls r k (Op.Steal (StealOp.Put s more f)) = few r k s.poll.run s.poll.poll
stray-polls r k (Op.Run (RunOp.TakeTurn x)) = few r k x.run x.poll
stray-polls r k (Op.Run (RunOp.SearchCommon x look)) = few r k x.run x.poll
stray-polls r k (Op.Run (RunOp.LookOwn x at left)) = few r k x.run x.poll
stray-polls r k (Op.Run (RunOp.WakeOwn x)) = few r k x.run x.poll
stray-polls r k _ = omega arith
