-- For keepers_are_called.
-- Who has a kept future in hand, or its drop; a run that leaves; and what each thing to do leaves of that.
use Rattle.std.proofs.Common.{◌≡◌, ◌∙◌, ℕ, ◌+◌, ◌≤◌, List, [], ◌∷◌, Bool, true, false, cond, eqb, refl, arith}
use Rattle.executor_laws.proofs.Types.{Move, Reply, ClosingOp, HandleOp, Hold, ListOp, Op, QueueOp, RunOp, RunPoll, Section}
use Rattle.executor_laws.proofs.Types.{TickOrRun, SleeperOp, StealOp, TableOp, Then, TickOp, UserOp, WakerOp}
use Rattle.executor_model.specs.World.{World, Ticker, Awake, Asleep, Left, run_of}
use Rattle.executor_model.specs.{ActsOfSleepers.found_by, Rows.drops_of, Rows.then_waiting, Weights.same, Weights.weigh}
use Rattle.executor_model.proofs.OwnQueues.RunsMoving.{Weighs, walk-by, weighs-found, weighs-stolen, nothing-by}
use Rattle.executor_model.proofs.{Quiet.Calls.calling_of, Steps.Lists.same_is, Steps.Lists.weigh-append, OwnQueues.Using.Mild}
use Rattle.executor_model.specs.ActsOfRuns as runs

-- who has future f in hand, to run it or to put it into its own queue, or has still to drop it
abbrev pub load_steal : ℕ → StealOp → ℕ
load_steal f (StealOp.Length s) = then_waiting f s.then
load_steal f (StealOp.OwnLength s n) = then_waiting f s.then
load_steal f (StealOp.Take s more) = then_waiting f s.then
load_steal f (StealOp.Put s more g) = same f g + then_waiting f s.then

abbrev pub load_of : ℕ → Op → ℕ
load_of f (Op.Move Move.TakeUp g) = same f g
load_of f (Op.Table (TableOp.TakeToDrop g)) = same f g
load_of f (Op.User (UserOp.BeginDrop g)) = same f g
load_of f (Op.Steal o) = load_steal f o
load_of f _ = 0

pub drops-load : (f : ℕ) (o : Op) → drops_of f o ≤ load_of f o
drops-load f (Op.Move Move.TakeUp g) = omega arith
drops-load f (Op.Table (TableOp.TakeToDrop g)) = omega arith
drops-load f (Op.Queue QueueOp.TakeTurn) = omega arith
drops-load f (Op.Queue (QueueOp.Take look)) = omega arith
drops-load f (Op.User (UserOp.BeginDrop g)) = omega arith
drops-load f (Op.Steal (StealOp.Length s)) = omega arith
drops-load f (Op.Waker (WakerOp.CopyWaker g held)) = omega arith
drops-load f (Op.Handle (HandleOp.LookAgain g)) = omega arith
drops-load f (Op.Sleeper SleeperOp.HandOut) = omega arith
drops-load f (Op.Tick TickOp.MakeTick) = omega arith
drops-load f (Op.Run RunOp.MakeRoom) = omega arith
drops-load f (Op.Closing (ClosingOp.Drain mark)) = omega arith
drops-load f (Op.List (ListOp.LockWrite Section.MakeRun)) = omega arith
drops-load f (Op.List (ListOp.Write Section.MakeRun)) = omega arith
drops-load f _ = omega arith

-- what is found is in hand

load-run_by : (f : ℕ) (b : Bool) (w : World) (x : RunPoll) (g : ℕ) →
    weigh (load_of f) (runs.run_by b w x g).next ≡ same f g
load-run_by f true w x g = omega arith
load-run_by f false w x g = omega arith

load-counted : (f : ℕ) (b : Bool) (w : World) (x : RunPoll) (g : ℕ) →
    weigh (load_of f) (runs.counted_by b w x g).next ≡ same f g
load-counted f true w x g = omega arith
load-counted f false w x g = load-run_by f _ _ x g

load-wakes_up : (f : ℕ) (p : Ticker) (who : TickOrRun) →
    weigh (load_of f) (found_by p who (Op.Sleeper SleeperOp.ExchangeFlag ∷ [])) ≡ 0
load-wakes_up f Awake who = refl
load-wakes_up f (Asleep n) who = refl
load-wakes_up f Left who = refl

pub load-found : (f : ℕ) (w : World) (x : RunPoll) (g : ℕ) → weigh (load_of f) (runs.found w x g).next ≡ same f g
load-found f w x g =
    let first = found_by (run_of w x.run).place (TickOrRun.Run x.run) (Op.Sleeper SleeperOp.ExchangeFlag ∷ []) in
    let b = eqb ((run_of w x.run).counted + 1) 64 in
    omega (
      arith,
      weigh-append (load_of f) first (runs.counted_by b w x g).next,
      load-wakes_up f (run_of w x.run).place (TickOrRun.Run x.run),
      load-counted f b w x g,
    )

pub load-stolen : (f : ℕ) (t : Then) (w : World) (x : RunPoll) →
    weigh (load_of f) (runs.stolen t w x).next ≡ then_waiting f t
load-stolen f (Then.Found g) w x = load-found f w x g
load-stolen f (Then.StealPlain g) w x = omega arith
load-stolen f (Then.Run g) w x = load-run_by f _ w x g
load-stolen f (Then.Walk at left) w x = refl

-- run r leaves, so that it is over, or is dropped

abbrev pub is_end_ready : Reply → Bool
is_end_ready Reply.Ready = true
is_end_ready _ = false

abbrev pub quits_section : ℕ → Section → ℕ
quits_section r Section.MakeRun = 0
quits_section r (Section.Register x) = 0
quits_section r (Section.Unregister q a) = cond (is_end_ready a) 0 (same r q)

abbrev pub quits_of : ℕ → Op → ℕ
quits_of r (Op.List (ListOp.LockWrite s)) = quits_section r s
quits_of r (Op.List (ListOp.Write s)) = quits_section r s
quits_of r (Op.Run (RunOp.Reschedule q a)) = same r q
quits_of r _ = 0

-- and its poll will be answered that its own future is ready
abbrev pub readies_held : ℕ → Hold → ℕ
readies_held r (Hold.Run q) = same r q
readies_held r _ = 0

abbrev pub readies_of : ℕ → Op → ℕ
readies_of r (Op.Run (RunOp.Reschedule q a)) = cond (is_end_ready a) (same r q) 0
readies_of r (Op.End a held) = cond (is_end_ready a) (readies_held r held) 0
readies_of r _ = 0

same-few : (r q : ℕ) → same r q ≤ 1
same-few r q = grind (arith, same_is)

cond-none : (b : Bool) (n : ℕ) → cond b 0 n ≤ n
cond-none true n = omega arith
cond-none false n = omega arith

section-few : (r : ℕ) (s : Section) → quits_section r s ≤ 1
section-few r Section.MakeRun = omega arith
section-few r (Section.Register x) = omega arith
section-few r (Section.Unregister q a) = omega (arith, cond-none (is_end_ready a) (same r q), same-few r q)

quits-few : (r : ℕ) (o : Op) → quits_of r o ≤ calling_of o
quits-few r (Op.List (ListOp.LockWrite s)) = section-few r s
quits-few r (Op.List (ListOp.Write s)) = section-few r s
quits-few r (Op.Run (RunOp.Reschedule q a)) = same-few r q
quits-few r _ = omega arith

pub mild-quits : (r : ℕ) → Mild (quits_of r)
mild-quits r = record {
  few = quits-few r;
  executor = λ a. refl;
  spawned = λ a f. refl;
  handle = λ a f. refl;
  handles = λ o. refl;
  take = λ look. refl;
}

-- searches lead to nothing of it

weighs-quits : (r : ℕ) (x : RunPoll) → Weighs (quits_of r) x 0 0
weighs-quits r x = record {
  exchange = refl;
  up = λ who. refl;
  take_up = λ f. refl;
  search = refl;
  wake = refl;
  steal = λ f. refl;
  steal_plain = λ f. refl;
  look = λ at left. refl;
}

pub quits-found : (r : ℕ) (w : World) (x : RunPoll) (g : ℕ) → weigh (quits_of r) (runs.found w x g).next ≡ 0
quits-found r w x g = weighs-found (quits_of r) x 0 0 (weighs-quits r x) w g

pub quits-stolen : (r : ℕ) (t : Then) (w : World) (x : RunPoll) → weigh (quits_of r) (runs.stolen t w x).next ≡ 0
quits-stolen r t w x = weighs-stolen (quits_of r) x 0 0 (weighs-quits r x) t w ∙ nothing-by t

pub quits-walk : (r : ℕ) (x : RunPoll) (qs : List ℕ) (at left : ℕ) → weigh (quits_of r) (runs.walk x qs at left) ≡ 0
quits-walk r x qs at left = walk-by (λ (os : List Op). weigh (quits_of r) os ≡ 0) x refl (λ q m n. refl) qs at left
