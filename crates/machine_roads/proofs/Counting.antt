-- What runs have taken, where a party stands in polls of some of them: each fewer than 200, but one that is to call its own waker, 200. And
-- a run whose own future is being dropped, which was ready, isn't over yet.
use Rattle.std.proofs.Common.{◌≡◌, ℕ, ◌≤◌, ◌==◌, ◌||◌, nat_lt, Bool, true, false, List, [], ◌∷◌, Option}
use Rattle.std.proofs.Common.{slice_get, refl, sym, ap, subst, ◌∙◌, arith}
use Rattle.std.proofs.lemmas.Bool.Decides.{nat_tests}
use Rattle.executor_model.specs.declared.op.ListOp.TheVariants as list_op
use Rattle.executor_model.specs.declared.op.Op.{Op}
use Rattle.executor_model.specs.declared.op.Op.TheVariants as op
use Rattle.executor_model.specs.declared.op.RunOp.TheVariants as run_op
use Rattle.executor_model.specs.declared.op.Section.TheVariants as section
use Rattle.executor_model.specs.declared.op.Waker.{Waker}
use Rattle.executor_model.specs.Rows.{running_of}
use Rattle.executor_model.specs.Weights.{same, weigh}
use Rattle.executor_model.specs.World.{Done}
use Rattle.executor_model.proofs.Steps.Lists.{same_is}
use Rattle.plain_scheduler.specs.State.{Choice, Code, Plain, Running, Taker}
use Rattle.plain_scheduler.specs.Lists.{or}
use Rattle.plain_scheduler.specs.Calls.{does, NewRun}
use Rattle.machine_roads.specs.View.{Output, wakes}
use Rattle.machine_roads.specs.Stopped.{Stopped, answered, drops, drops_given, drops_polled, polls}
use Rattle.machine_roads.specs.Within.{StandsAlike}
use Rattle.machine_roads.proofs.RunApart.{its_run}
use Rattle.machine_roads.proofs.RunsBeside.{one_more_going, one_more_run}

-- this run is to call its own waker, and this one is to leave the list of queues
abbrev pub lasts : ℕ → Op → Bool
lasts r (op.Run (run_op.WakeOwn x)) = r == x.run
lasts r _ = false

abbrev pub leaves : ℕ → Op → Bool
leaves r (op.List (list_op.LockWrite (section.Unregister k a))) = r == k
leaves r _ = false

abbrev pub some_op : (Op → Bool) → List Op → Bool
some_op test [] = false
some_op test (o ∷ os) = test o || some_op test os

abbrev pub Taken : Bool → ℕ → Type 0
Taken true n = n ≡ 200
Taken false n = nat_lt n 200 ≡ true

abbrev pub taken_in : ℕ → List Running → ℕ
taken_in r rs = or (slice_get rs r) (λ run. run.taken) 0

abbrev pub over_in : ℕ → List Running → Bool
over_in r rs = or (slice_get rs r) (λ run. run.is_over) true

pub record Counted (os : List Op) (rs : List Running) : Type 0 where
  pub taken : (r : ℕ) → Taken (some_op (lasts r) os) (taken_in r rs)
  pub going : (r : ℕ) → some_op (leaves r) os ≡ true → over_in r rs ≡ false

-- the same is asked of both
pub record Alike (os xs : List Op) : Type 0 where
  pub last : (r : ℕ) → some_op (lasts r) xs ≡ some_op (lasts r) os
  pub left : (r : ℕ) → some_op (leaves r) xs ≡ some_op (leaves r) os

pub like : (os xs : List Op) (rs : List Running) → Alike os xs → Counted os rs → Counted xs rs
like os xs rs same so = record {
  taken = λ r. subst (λ b. Taken b (taken_in r rs)) (sym (same.last r)) (so.taken r);
  going = λ r is. so.going r (sym (same.left r) ∙ is);
}

-- where no run changes
pub unchanged : (os : List Op) (rs qs : List Running) → ((k : ℕ) → its_run k qs ≡ its_run k rs) → Counted os rs → Counted os qs
unchanged os rs qs same so = record {
  taken = λ r. subst (λ o. Taken (some_op (lasts r) os) (or o (λ run. run.taken) 0)) (sym (same r)) (so.taken r);
  going = λ r is. ap (λ (o : Option Running). or o (λ run. run.is_over) true) (same r) ∙ so.going r is;
}

pub like_self : (os : List Op) → Alike os os
like_self os = record { last = λ r. refl; left = λ r. refl }

-- where a call that takes stands: as behind what it took, or it is answered
pub data Comes (final : Op) (below : List Op) (inside : List (Code Output Waker)) (os : List Op) (codes : List (Code Output Waker))
    : Type 0 where
  at_end : os ≡ below → codes ≡ inside → Comes final below inside os codes
  in_code : Alike (final ∷ below) os → Comes final below inside os codes

pub comes : (taker : Taker Waker) (final : Op) (below : List Op) (inside : List (Code Output Waker)) (os : List Op)
    (codes : List (Code Output Waker)) → Stopped taker final below inside os codes → Comes final below inside os codes
comes taker final below inside os codes answered = at_end refl refl
comes taker final below inside os codes (polls f) = in_code (record { last = λ r. refl; left = λ r. refl })
comes taker final below inside os codes (drops f) = in_code (record { last = λ r. refl; left = λ r. refl })
comes taker final below inside os codes (drops_polled f) = in_code (record { last = λ r. refl; left = λ r. refl })
comes taker final below inside os codes (drops_given f) = in_code (record { last = λ r. refl; left = λ r. refl })

-- who uses a run once uses it nowhere else

one_use : (r k : ℕ) → (r == k) ≡ true → 1 ≤ same r k
one_use r k is = grind (arith, same_is, nat_tests)

last_uses : (r : ℕ) (o : Op) → lasts r o ≡ true → 1 ≤ running_of r o
last_uses r (op.Run (run_op.WakeOwn x)) is = one_use r x.run is
last_uses r _ is = absurd cc

left_uses : (r : ℕ) (o : Op) → leaves r o ≡ true → 1 ≤ running_of r o
left_uses r (op.List (list_op.LockWrite (section.Unregister k a))) is = one_use r k is
left_uses r _ is = absurd cc

unused_none : (r : ℕ) (test : Op → Bool) → ((o : Op) → test o ≡ true → 1 ≤ running_of r o) → (os : List Op)
    → weigh (running_of r) os ≡ 0 → some_op test os ≡ false
unused_none r test uses [] none = refl
unused_none r test uses (o ∷ os) none = by (test o) refl (unused_none r test uses os (omega (arith, none)))
  where
    by : (b : Bool) → test o ≡ b → some_op test os ≡ false → (test o || some_op test os) ≡ false
    by true is rest = absurd (omega (arith, none, uses o is))
    by false is rest = ap (λ b. b || some_op test os) is ∙ rest

pub none_last : (r : ℕ) (os : List Op) → weigh (running_of r) os ≡ 0 → some_op (lasts r) os ≡ false
none_last r os none = unused_none r (lasts r) (last_uses r) os none

pub none_left : (r : ℕ) (os : List Op) → weigh (running_of r) os ≡ 0 → some_op (leaves r) os ≡ false
none_left r os none = unused_none r (leaves r) (left_uses r) os none

-- both stand alike there, with what runs have taken
pub record StandsSo (e : Done) (q : Plain Output Waker) : Type 0 where
  pub alike : StandsAlike e q
  pub counted : Counted e.next q.runs

-- a run that is made has taken none
pub makes_counted : (os : List Op) (c : Choice) (q : Plain Output Waker) → Counted os q.runs → Counted os (does wakes c NewRun q).runs
makes_counted os c q so = record {
  taken = λ r. subst (Taken (some_op (lasts r) os)) (sym (one_more_run c q r)) (so.taken r);
  going = λ r is. one_more_going c q r (so.going r is);
}
