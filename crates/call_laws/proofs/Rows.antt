-- For calls_can_be_begun.
-- What each operation counts of a handle, waker, tick, run or of the executor is what the call holds that it answers.
use Rattle.std.proofs.Common.{◌≡◌, ℕ, ◌+◌, ◌≤◌, false, cond}
use Rattle.std.proofs.Common.{refl, sym, arith}
use Rattle.call_laws.proofs.Types.{Call, ClosingOp, HandleOp, ListOp, Move, Op, QueueOp, RunOp, Section}
use Rattle.call_laws.proofs.Types.{SleeperOp, StealOp}
use Rattle.call_laws.proofs.Types.{TableOp, TickOp, TickOrRun, UserOp, WakerOp}
use Rattle.executor_model.specs.ActsOfSleepers.{held_as}
use Rattle.executor_model.specs.Rows.{borrowing_of, handling_of, leaking_of, lending_of, running_of, ticking_of}
use Rattle.executor_model.specs.Weights.{holds_executor, holds_handle, holds_leak, holds_run, holds_tick, holds_waker}
use Rattle.executor_model.specs.Weights.{is_run, is_tick}
use Rattle.executor_model.proofs.Promises.CallServes.{copies, misfit, polls_by}
use Rattle.call_laws.proofs.Carrying.{carried_of}
use Rattle.call_laws.proofs.Idling.{futures_of, served}
use Rattle.call_laws.proofs.Taking.{not-both}

-- the rows

who-handle : (g : ℕ) (who : TickOrRun) → holds_handle g (held_as who) ≡ 0
who-handle g (TickOrRun.Tick t) = refl
who-handle g (TickOrRun.Run r) = refl

who-waker : (k : ℕ) (who : TickOrRun) → holds_waker k (held_as who) ≡ 0
who-waker k (TickOrRun.Tick t) = refl
who-waker k (TickOrRun.Run r) = refl

who-leak : (who : TickOrRun) → holds_leak (held_as who) ≡ 0
who-leak (TickOrRun.Tick t) = refl
who-leak (TickOrRun.Run r) = refl

who-executor : (who : TickOrRun) → holds_executor (held_as who) ≡ 1
who-executor (TickOrRun.Tick t) = refl
who-executor (TickOrRun.Run r) = refl

who-tick : (t : ℕ) (who : TickOrRun) → holds_tick t (held_as who) ≡ is_tick t who
who-tick t (TickOrRun.Tick u) = refl
who-tick t (TickOrRun.Run r) = refl

who-run : (r : ℕ) (who : TickOrRun) → holds_run r (held_as who) ≡ is_run r who
who-run r (TickOrRun.Tick t) = refl
who-run r (TickOrRun.Run q) = refl

pub handling-is : (c : Call) → copies c ≡ false → (g : ℕ) (o : Op) → misfit c o ≡ 0 → handling_of g o ≡ carried_of (holds_handle g) o
handling-is c off g (Op.Move Move.Wake f) m = refl
handling-is c off g (Op.Table (TableOp.Enter mark)) m = refl
handling-is c off g (Op.Queue QueueOp.TakeTurn) m = refl
handling-is c off g (Op.User (UserOp.PollOwn x)) m = refl
handling-is c off g (Op.Waker (WakerOp.CopyWaker f held)) m = absurd (not-both (copies c) (served (copies c) m) off)
handling-is c off g (Op.Handle (HandleOp.LookAgain f)) m = refl
handling-is c off g (Op.Sleeper SleeperOp.HandOut) m = refl
handling-is c off g (Op.Tick (TickOp.Search s)) m = sym (who-handle g s.who)
handling-is c off g (Op.Tick (TickOp.Look s look)) m = sym (who-handle g s.who)
handling-is c off g (Op.Tick (TickOp.CopyWaker s)) m = sym (who-handle g s.who)
handling-is c off g (Op.Tick (TickOp.FallAsleep s)) m = sym (who-handle g s.who)
handling-is c off g (Op.List (ListOp.LockWrite Section.MakeRun)) m = refl
handling-is c off g (Op.List (ListOp.Write Section.MakeRun)) m = refl
handling-is c off g (Op.Steal (StealOp.Length s)) m = refl
handling-is c off g (Op.Run RunOp.MakeRoom) m = refl
handling-is c off g (Op.Closing (ClosingOp.Drain mark)) m = refl
handling-is c off g _ m = refl

pub ticking-is : (c : Call) → copies c ≡ false → (t : ℕ) (o : Op) → misfit c o ≡ 0 → ticking_of t o ≡ carried_of (holds_tick t) o
ticking-is c off t (Op.Move Move.Wake f) m = refl
ticking-is c off t (Op.Table (TableOp.Enter mark)) m = refl
ticking-is c off t (Op.Queue QueueOp.TakeTurn) m = refl
ticking-is c off t (Op.User (UserOp.PollOwn x)) m = refl
ticking-is c off t (Op.Waker (WakerOp.CopyWaker f held)) m = absurd (not-both (copies c) (served (copies c) m) off)
ticking-is c off t (Op.Handle (HandleOp.LookAgain f)) m = refl
ticking-is c off t (Op.Sleeper SleeperOp.HandOut) m = refl
ticking-is c off t (Op.Tick (TickOp.Search s)) m = sym (who-tick t s.who)
ticking-is c off t (Op.Tick (TickOp.Look s look)) m = sym (who-tick t s.who)
ticking-is c off t (Op.Tick (TickOp.CopyWaker s)) m = sym (who-tick t s.who)
ticking-is c off t (Op.Tick (TickOp.FallAsleep s)) m = sym (who-tick t s.who)
ticking-is c off t (Op.List (ListOp.LockWrite Section.MakeRun)) m = refl
ticking-is c off t (Op.List (ListOp.Write Section.MakeRun)) m = refl
ticking-is c off t (Op.Steal (StealOp.Length s)) m = refl
ticking-is c off t (Op.Run RunOp.MakeRoom) m = refl
ticking-is c off t (Op.Closing (ClosingOp.Drain mark)) m = refl
ticking-is c off t _ m = refl

pub running-is : (c : Call) → copies c ≡ false → (r : ℕ) (o : Op) → misfit c o ≡ 0 → running_of r o ≡ carried_of (holds_run r) o
running-is c off r (Op.Move Move.Wake f) m = refl
running-is c off r (Op.Table (TableOp.Enter mark)) m = refl
running-is c off r (Op.Queue QueueOp.TakeTurn) m = refl
running-is c off r (Op.User (UserOp.PollOwn x)) m = refl
running-is c off r (Op.Waker (WakerOp.CopyWaker f held)) m = absurd (not-both (copies c) (served (copies c) m) off)
running-is c off r (Op.Handle (HandleOp.LookAgain f)) m = refl
running-is c off r (Op.Sleeper SleeperOp.HandOut) m = refl
running-is c off r (Op.Tick (TickOp.Search s)) m = sym (who-run r s.who)
running-is c off r (Op.Tick (TickOp.Look s look)) m = sym (who-run r s.who)
running-is c off r (Op.Tick (TickOp.CopyWaker s)) m = sym (who-run r s.who)
running-is c off r (Op.Tick (TickOp.FallAsleep s)) m = sym (who-run r s.who)
running-is c off r (Op.List (ListOp.LockWrite Section.MakeRun)) m = refl
running-is c off r (Op.List (ListOp.Write Section.MakeRun)) m = refl
running-is c off r (Op.Steal (StealOp.Length s)) m = refl
running-is c off r (Op.Run RunOp.MakeRoom) m = refl
running-is c off r (Op.Closing (ClosingOp.Drain mark)) m = refl
running-is c off r _ m = refl

pub leaking-is : (c : Call) → copies c ≡ false → (o : Op) → misfit c o ≡ 0 → leaking_of o ≡ carried_of holds_leak o
leaking-is c off (Op.Move Move.Wake f) m = refl
leaking-is c off (Op.Table (TableOp.Enter mark)) m = refl
leaking-is c off (Op.Queue QueueOp.TakeTurn) m = refl
leaking-is c off (Op.User (UserOp.PollOwn x)) m = refl
leaking-is c off (Op.Waker (WakerOp.CopyWaker f held)) m = absurd (not-both (copies c) (served (copies c) m) off)
leaking-is c off (Op.Handle (HandleOp.LookAgain f)) m = refl
leaking-is c off (Op.Sleeper SleeperOp.HandOut) m = refl
leaking-is c off (Op.Tick (TickOp.Search s)) m = sym (who-leak s.who)
leaking-is c off (Op.Tick (TickOp.Look s look)) m = sym (who-leak s.who)
leaking-is c off (Op.Tick (TickOp.CopyWaker s)) m = sym (who-leak s.who)
leaking-is c off (Op.Tick (TickOp.FallAsleep s)) m = sym (who-leak s.who)
leaking-is c off (Op.List (ListOp.LockWrite Section.MakeRun)) m = refl
leaking-is c off (Op.List (ListOp.Write Section.MakeRun)) m = refl
leaking-is c off (Op.Steal (StealOp.Length s)) m = refl
leaking-is c off (Op.Run RunOp.MakeRoom) m = refl
leaking-is c off (Op.Closing (ClosingOp.Drain mark)) m = refl
leaking-is c off _ m = refl

pub lending-is : (k : ℕ) (o : Op) → lending_of k o ≡ carried_of (holds_waker k) o
lending-is k (Op.Move Move.Wake f) = refl
lending-is k (Op.Table (TableOp.Enter mark)) = refl
lending-is k (Op.Queue QueueOp.TakeTurn) = refl
lending-is k (Op.User (UserOp.PollOwn x)) = refl
lending-is k (Op.Waker (WakerOp.CopyWaker f held)) = refl
lending-is k (Op.Handle (HandleOp.LookAgain f)) = refl
lending-is k (Op.Sleeper SleeperOp.HandOut) = refl
lending-is k (Op.Tick (TickOp.Search s)) = sym (who-waker k s.who)
lending-is k (Op.Tick (TickOp.Look s look)) = sym (who-waker k s.who)
lending-is k (Op.Tick (TickOp.CopyWaker s)) = sym (who-waker k s.who)
lending-is k (Op.Tick (TickOp.FallAsleep s)) = sym (who-waker k s.who)
lending-is k (Op.List (ListOp.LockWrite Section.MakeRun)) = refl
lending-is k (Op.List (ListOp.Write Section.MakeRun)) = refl
lending-is k (Op.Steal (StealOp.Length s)) = refl
lending-is k (Op.Run RunOp.MakeRoom) = refl
lending-is k (Op.Closing (ClosingOp.Drain mark)) = refl
lending-is k _ = refl

pub borrowing-is : (o : Op) → borrowing_of o ≡ carried_of holds_executor o + futures_of o
borrowing-is (Op.Move Move.Wake f) = omega arith
borrowing-is (Op.Table (TableOp.Enter mark)) = omega arith
borrowing-is (Op.Queue QueueOp.TakeTurn) = omega arith
borrowing-is (Op.User (UserOp.PollOwn x)) = omega arith
borrowing-is (Op.Waker (WakerOp.CopyWaker f held)) = omega arith
borrowing-is (Op.Handle (HandleOp.LookAgain f)) = omega arith
borrowing-is (Op.Sleeper SleeperOp.HandOut) = omega arith
borrowing-is (Op.Tick (TickOp.Search s)) = omega (arith, who-executor s.who)
borrowing-is (Op.Tick (TickOp.Look s look)) = omega (arith, who-executor s.who)
borrowing-is (Op.Tick (TickOp.CopyWaker s)) = omega (arith, who-executor s.who)
borrowing-is (Op.Tick (TickOp.FallAsleep s)) = omega (arith, who-executor s.who)
borrowing-is (Op.List (ListOp.LockWrite Section.MakeRun)) = omega arith
borrowing-is (Op.List (ListOp.Write Section.MakeRun)) = omega arith
borrowing-is (Op.Steal (StealOp.Length s)) = omega arith
borrowing-is (Op.Run RunOp.MakeRoom) = omega arith
borrowing-is (Op.Closing (ClosingOp.Drain mark)) = omega arith
borrowing-is _ = omega arith

-- a copy of a waker uses nothing else

pub handling-few : (g : ℕ) (o : Op) → handling_of g o ≤ carried_of (holds_handle g) o
handling-few g (Op.Move Move.Wake f) = omega arith
handling-few g (Op.Table (TableOp.Enter mark)) = omega arith
handling-few g (Op.Queue QueueOp.TakeTurn) = omega arith
handling-few g (Op.User (UserOp.PollOwn x)) = omega arith
handling-few g (Op.Waker (WakerOp.CopyWaker f held)) = omega arith
handling-few g (Op.Handle (HandleOp.LookAgain f)) = omega arith
handling-few g (Op.Sleeper SleeperOp.HandOut) = omega arith
handling-few g (Op.Tick (TickOp.Search s)) = omega (arith, who-handle g s.who)
handling-few g (Op.Tick (TickOp.Look s look)) = omega (arith, who-handle g s.who)
handling-few g (Op.Tick (TickOp.CopyWaker s)) = omega (arith, who-handle g s.who)
handling-few g (Op.Tick (TickOp.FallAsleep s)) = omega (arith, who-handle g s.who)
handling-few g (Op.List (ListOp.LockWrite Section.MakeRun)) = omega arith
handling-few g (Op.List (ListOp.Write Section.MakeRun)) = omega arith
handling-few g (Op.Steal (StealOp.Length s)) = omega arith
handling-few g (Op.Run RunOp.MakeRoom) = omega arith
handling-few g (Op.Closing (ClosingOp.Drain mark)) = omega arith
handling-few g _ = omega arith

pub ticking-few : (t : ℕ) (o : Op) → ticking_of t o ≤ carried_of (holds_tick t) o
ticking-few t (Op.Move Move.Wake f) = omega arith
ticking-few t (Op.Table (TableOp.Enter mark)) = omega arith
ticking-few t (Op.Queue QueueOp.TakeTurn) = omega arith
ticking-few t (Op.User (UserOp.PollOwn x)) = omega arith
ticking-few t (Op.Waker (WakerOp.CopyWaker f held)) = omega arith
ticking-few t (Op.Handle (HandleOp.LookAgain f)) = omega arith
ticking-few t (Op.Sleeper SleeperOp.HandOut) = omega arith
ticking-few t (Op.Tick (TickOp.Search s)) = omega (arith, who-tick t s.who)
ticking-few t (Op.Tick (TickOp.Look s look)) = omega (arith, who-tick t s.who)
ticking-few t (Op.Tick (TickOp.CopyWaker s)) = omega (arith, who-tick t s.who)
ticking-few t (Op.Tick (TickOp.FallAsleep s)) = omega (arith, who-tick t s.who)
ticking-few t (Op.List (ListOp.LockWrite Section.MakeRun)) = omega arith
ticking-few t (Op.List (ListOp.Write Section.MakeRun)) = omega arith
ticking-few t (Op.Steal (StealOp.Length s)) = omega arith
ticking-few t (Op.Run RunOp.MakeRoom) = omega arith
ticking-few t (Op.Closing (ClosingOp.Drain mark)) = omega arith
ticking-few t _ = omega arith

pub running-few : (r : ℕ) (o : Op) → running_of r o ≤ carried_of (holds_run r) o
running-few r (Op.Move Move.Wake f) = omega arith
running-few r (Op.Table (TableOp.Enter mark)) = omega arith
running-few r (Op.Queue QueueOp.TakeTurn) = omega arith
running-few r (Op.User (UserOp.PollOwn x)) = omega arith
running-few r (Op.Waker (WakerOp.CopyWaker f held)) = omega arith
running-few r (Op.Handle (HandleOp.LookAgain f)) = omega arith
running-few r (Op.Sleeper SleeperOp.HandOut) = omega arith
running-few r (Op.Tick (TickOp.Search s)) = omega (arith, who-run r s.who)
running-few r (Op.Tick (TickOp.Look s look)) = omega (arith, who-run r s.who)
running-few r (Op.Tick (TickOp.CopyWaker s)) = omega (arith, who-run r s.who)
running-few r (Op.Tick (TickOp.FallAsleep s)) = omega (arith, who-run r s.who)
running-few r (Op.List (ListOp.LockWrite Section.MakeRun)) = omega arith
running-few r (Op.List (ListOp.Write Section.MakeRun)) = omega arith
running-few r (Op.Steal (StealOp.Length s)) = omega arith
running-few r (Op.Run RunOp.MakeRoom) = omega arith
running-few r (Op.Closing (ClosingOp.Drain mark)) = omega arith
running-few r _ = omega arith

pub leaking-few : (o : Op) → leaking_of o ≤ carried_of holds_leak o
leaking-few (Op.Move Move.Wake f) = omega arith
leaking-few (Op.Table (TableOp.Enter mark)) = omega arith
leaking-few (Op.Queue QueueOp.TakeTurn) = omega arith
leaking-few (Op.User (UserOp.PollOwn x)) = omega arith
leaking-few (Op.Waker (WakerOp.CopyWaker f held)) = omega arith
leaking-few (Op.Handle (HandleOp.LookAgain f)) = omega arith
leaking-few (Op.Sleeper SleeperOp.HandOut) = omega arith
leaking-few (Op.Tick (TickOp.Search s)) = omega (arith, who-leak s.who)
leaking-few (Op.Tick (TickOp.Look s look)) = omega (arith, who-leak s.who)
leaking-few (Op.Tick (TickOp.CopyWaker s)) = omega (arith, who-leak s.who)
leaking-few (Op.Tick (TickOp.FallAsleep s)) = omega (arith, who-leak s.who)
leaking-few (Op.List (ListOp.LockWrite Section.MakeRun)) = omega arith
leaking-few (Op.List (ListOp.Write Section.MakeRun)) = omega arith
leaking-few (Op.Steal (StealOp.Length s)) = omega arith
leaking-few (Op.Run RunOp.MakeRoom) = omega arith
leaking-few (Op.Closing (ClosingOp.Drain mark)) = omega arith
leaking-few _ = omega arith

-- the end of a call that lets run r go
abbrev pub letting_of : ℕ → Op → ℕ
letting_of r (Op.End a held) = holds_run r held
letting_of r _ = 0

made-not : (who : TickOrRun) → cond {A = ℕ} (polls_by who Call.NewRun) 0 1 ≡ 0 → ⊥
made-not (TickOrRun.Tick t) m = absurd (omega (arith, m))
made-not (TickOrRun.Run q) m = absurd (omega (arith, m))

pub making-is : (r : ℕ) (o : Op) → misfit Call.NewRun o ≡ 0 → carried_of (holds_run r) o ≡ letting_of r o
making-is r (Op.Move Move.Wake f) m = refl
making-is r (Op.Table (TableOp.Enter mark)) m = refl
making-is r (Op.Queue QueueOp.TakeTurn) m = refl
making-is r (Op.User (UserOp.PollOwn x)) m = absurd (omega (arith, m))
making-is r (Op.Waker (WakerOp.CopyWaker f held)) m = absurd (omega (arith, m))
making-is r (Op.Handle (HandleOp.LookAgain f)) m = refl
making-is r (Op.Sleeper SleeperOp.HandOut) m = refl
making-is r (Op.Tick (TickOp.Search s)) m = absurd (made-not s.who m)
making-is r (Op.Tick (TickOp.Look s look)) m = absurd (made-not s.who m)
making-is r (Op.Tick (TickOp.CopyWaker s)) m = absurd (made-not s.who m)
making-is r (Op.Tick (TickOp.FallAsleep s)) m = absurd (made-not s.who m)
making-is r (Op.List (ListOp.LockWrite Section.MakeRun)) m = refl
making-is r (Op.List (ListOp.LockWrite (Section.Register x))) m = absurd (omega (arith, m))
making-is r (Op.List (ListOp.LockWrite (Section.Unregister q a))) m = absurd (omega (arith, m))
making-is r (Op.List (ListOp.Write Section.MakeRun)) m = refl
making-is r (Op.List (ListOp.Write (Section.Register x))) m = absurd (omega (arith, m))
making-is r (Op.List (ListOp.Write (Section.Unregister q a))) m = absurd (omega (arith, m))
making-is r (Op.List (ListOp.LockRead x)) m = absurd (omega (arith, m))
making-is r (Op.Steal (StealOp.Length s)) m = absurd (omega (arith, m))
making-is r (Op.Steal (StealOp.OwnLength s n)) m = absurd (omega (arith, m))
making-is r (Op.Steal (StealOp.Take s n)) m = absurd (omega (arith, m))
making-is r (Op.Steal (StealOp.Put s n f)) m = absurd (omega (arith, m))
making-is r (Op.Run (RunOp.TakeTurn x)) m = absurd (omega (arith, m))
making-is r (Op.Run (RunOp.SearchCommon x look)) m = absurd (omega (arith, m))
making-is r (Op.Run (RunOp.LookOwn x at left)) m = absurd (omega (arith, m))
making-is r (Op.Run (RunOp.WakeOwn x)) m = absurd (omega (arith, m))
making-is r (Op.Run (RunOp.Reschedule q a)) m = absurd (omega (arith, m))
making-is r (Op.Closing (ClosingOp.Drain mark)) m = refl
making-is r _ m = refl
