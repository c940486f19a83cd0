-- For some_standing_is_called.
-- A tick or run that a call may use lives, and nothing uses it; and none lives where the executor may be dropped.
use Rattle.std.proofs.Common.{◌≡◌, ◌∙◌, ℕ, zero, suc, ◌<◌, List, [], ◌∷◌, length, get_or, Bool, true, false, ◌&&◌, ◌||◌, refl}
use Rattle.std.proofs.Common.{sym, ap, subst, arith}
use Rattle.std.{proofs.lemmas.Bool.Decides.nat_tests, specs.List.list_any, specs.Prelude.not, specs.Prelude.nat_lt}
use Rattle.executor_laws.proofs.Types.{Move, ClosingOp, HandleOp, Hold, ListOp, Op, QueueOp, RunOp, Section, TickOrRun}
use Rattle.executor_laws.proofs.Types.{SleeperOp, StealOp, TableOp, TickOp, UserOp, WakerOp}
use Rattle.executor_model.specs.Steps.{Machine, has_run, has_tick, is_there, lives}
use Rattle.executor_model.specs.Weights.{is_run, is_tick as is_the_tick, holds_run, holds_tick, weigh, weigh_all}
use Rattle.executor_model.specs.{Rows.running_of, Rows.ticking_of, World.Ticker, World.Left, World.Run, World.no_run}
use Rattle.executor_model.proofs.{Steps.Lift.first-true, Steps.Lift.unborrowed, Sleepers.TickLists.is_tick}
use Rattle.executor_laws.proofs.{Wakeups.Sitting.holds_it, Wakeups.Sitting.is_it, Wakeups.Stands.used_of, Wakeups.Stands.view}

-- what uses it is what is counted

who-tick : (t : ℕ) (u : TickOrRun) → is_it (TickOrRun.Tick t) u ≡ is_the_tick t u
who-tick t (TickOrRun.Tick u) = refl
who-tick t (TickOrRun.Run q) = refl

who-run : (r : ℕ) (u : TickOrRun) → is_it (TickOrRun.Run r) u ≡ is_run r u
who-run r (TickOrRun.Tick u) = refl
who-run r (TickOrRun.Run q) = refl

held-tick : (t : ℕ) (h : Hold) → holds_it (TickOrRun.Tick t) h ≡ holds_tick t h
held-tick t (Hold.Tick u) = refl
held-tick t (Hold.Run q) = refl
held-tick t _ = refl

held-run : (r : ℕ) (h : Hold) → holds_it (TickOrRun.Run r) h ≡ holds_run r h
held-run r (Hold.Tick u) = refl
held-run r (Hold.Run q) = refl
held-run r _ = refl

one-tick : (t : ℕ) (o : Op) → used_of (TickOrRun.Tick t) o ≡ ticking_of t o
one-tick t (Op.Move Move.Wake f) = refl
one-tick t (Op.Table (TableOp.Enter mark)) = refl
one-tick t (Op.Queue QueueOp.TakeTurn) = refl
one-tick t (Op.Queue (QueueOp.Take look)) = refl
one-tick t (Op.User (UserOp.PollOwn x)) = refl
one-tick t (Op.Waker (WakerOp.CopyWaker f held)) = refl
one-tick t (Op.Handle (HandleOp.LookAgain f)) = refl
one-tick t (Op.Sleeper SleeperOp.HandOut) = refl
one-tick t (Op.Tick (TickOp.Search s)) = who-tick t s.who
one-tick t (Op.Tick (TickOp.Look s look)) = who-tick t s.who
one-tick t (Op.Tick (TickOp.CopyWaker s)) = who-tick t s.who
one-tick t (Op.Tick (TickOp.FallAsleep s)) = who-tick t s.who
one-tick t (Op.List (ListOp.LockWrite Section.MakeRun)) = refl
one-tick t (Op.List (ListOp.Write Section.MakeRun)) = refl
one-tick t (Op.Steal (StealOp.Length s)) = refl
one-tick t (Op.Run RunOp.MakeRoom) = refl
one-tick t (Op.Closing (ClosingOp.Drain mark)) = refl
one-tick t (Op.End r held) = held-tick t held
one-tick t _ = refl

one-run : (r : ℕ) (o : Op) → used_of (TickOrRun.Run r) o ≡ running_of r o
one-run r (Op.Move Move.Wake f) = refl
one-run r (Op.Table (TableOp.Enter mark)) = refl
one-run r (Op.Queue QueueOp.TakeTurn) = refl
one-run r (Op.Queue (QueueOp.Take look)) = refl
one-run r (Op.User (UserOp.PollOwn x)) = refl
one-run r (Op.Waker (WakerOp.CopyWaker f held)) = refl
one-run r (Op.Handle (HandleOp.LookAgain f)) = refl
one-run r (Op.Sleeper SleeperOp.HandOut) = refl
one-run r (Op.Tick (TickOp.Search s)) = who-run r s.who
one-run r (Op.Tick (TickOp.Look s look)) = who-run r s.who
one-run r (Op.Tick (TickOp.CopyWaker s)) = who-run r s.who
one-run r (Op.Tick (TickOp.FallAsleep s)) = who-run r s.who
one-run r (Op.List (ListOp.LockWrite Section.MakeRun)) = refl
one-run r (Op.List (ListOp.Write Section.MakeRun)) = refl
one-run r (Op.Steal (StealOp.Length s)) = refl
one-run r (Op.Run RunOp.MakeRoom) = refl
one-run r (Op.Closing (ClosingOp.Drain mark)) = refl
one-run r (Op.End a held) = held-run r held
one-run r _ = refl

weigh-same : (v u : Op → ℕ) → ((o : Op) → v o ≡ u o) → (os : List Op) → weigh v os ≡ weigh u os
weigh-same v u k [] = refl
weigh-same v u k (o ∷ os) = omega (arith, k o, weigh-same v u k os)

all-same : (v u : Op → ℕ) → ((o : Op) → v o ≡ u o) → (ss : List (List Op)) → weigh_all v ss ≡ weigh_all u ss
all-same v u k [] = refl
all-same v u k (s ∷ ss) = omega (arith, weigh-same v u k s, all-same v u k ss)

-- it is there

and-right : (a b : Bool) → (a && b) ≡ true → b ≡ true
and-right true b e = e
and-right false b e = absurd (cc)

lives-known : (ts : List Ticker) (t : ℕ) → lives (get_or ts t Left) ≡ true → nat_lt t (length ts) ≡ true
lives-known ts t e = let i : t < length ts =
    is_tick ts t (λ z. let no : true ≡ false = sym e ∙ ap lives z in absurd (cc)) in
    grind (arith, nat_tests)

pub run-there : (rs : List Run) (r : ℕ) → not (get_or rs r no_run).dropped ≡ true → r < length rs
run-there [] r e = absurd (cc)
run-there (x ∷ rs) zero e = omega arith
run-there (x ∷ rs) (suc r) e = omega (arith, run-there rs r e)

run-known : (rs : List Run) (r : ℕ) → not (get_or rs r no_run).dropped ≡ true → nat_lt r (length rs) ≡ true
run-known rs r e = let i : r < length rs = run-there rs r e in grind (arith, nat_tests)

abbrev Free : Machine → TickOrRun → Type 0
Free s t = ((view t s.world).living ≡ true) × ((view t s.world).made ≡ true) × (weigh_all (used_of t) s.parties ≡ 0)

pub uses-tick : (s : Machine) (t : TickOrRun) (u : ℕ) → has_tick s.world s.parties u ≡ true → t ≡ TickOrRun.Tick u →
    Free s t
uses-tick s t u k q =
    subst (Free s) (sym q) (
      first-true _ _ k,
      lives-known s.world.ticks u (first-true _ _ k),
      all-same (used_of (TickOrRun.Tick u)) (ticking_of u) (one-tick u) s.parties ∙ unborrowed _ (and-right _ _ k),
    )

pub uses-run : (s : Machine) (t : TickOrRun) (r : ℕ) → has_run s.world s.parties r ≡ true → t ≡ TickOrRun.Run r → Free s t
uses-run s t r k q =
    subst (Free s) (sym q) (
      first-true _ _ k,
      run-known s.world.runs r (first-true _ _ k),
      all-same (used_of (TickOrRun.Run r)) (running_of r) (one-run r) s.parties ∙ unborrowed _ (and-right _ _ k),
    )

-- none lives

pub all-gone : (a b c : Bool) → (not true || (a && not (b || c))) ≡ true → (b ≡ false) × (c ≡ false)
all-gone true false false e = (refl, refl)
all-gone true true c e = absurd (cc)
all-gone true false true e = absurd (cc)
all-gone false b c e = absurd (cc)

first-false : (a b : Bool) → (a || b) ≡ false → a ≡ false
first-false false b e = refl
first-false true b e = absurd (cc)

second-false : (a b : Bool) → (a || b) ≡ false → b ≡ false
second-false false b e = e
second-false true b e = absurd (cc)

no-tick : (ts : List Ticker) (t : ℕ) → list_any lives ts ≡ false → lives (get_or ts t Left) ≡ false
no-tick [] zero e = refl
no-tick [] (suc t) e = refl
no-tick (x ∷ ts) zero e = first-false _ _ e
no-tick (x ∷ ts) (suc t) e = no-tick ts t (second-false _ _ e)

no-run : (rs : List Run) (r : ℕ) → list_any is_there rs ≡ false → not (get_or rs r no_run).dropped ≡ false
no-run [] r e = refl
no-run (x ∷ rs) zero e = first-false _ _ e
no-run (x ∷ rs) (suc r) e = no-run rs r (second-false _ _ e)

pub none-lives : (s : Machine) (t : TickOrRun) →
    (list_any lives s.world.ticks ≡ false) × (list_any is_there s.world.runs ≡ false) →
    (view t s.world).living ≡ false
none-lives s (TickOrRun.Tick t) e = no-tick s.world.ticks t e.0
none-lives s (TickOrRun.Run r) e = no-run s.world.runs r e.1
