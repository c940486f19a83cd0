-- What takes no turn, and leads to nothing that does.
use Rattle.std.proofs.Common.{◌≡◌, ◌≤◌, ℕ, List, [], ◌∷◌, Bool, true, false, refl, sym, ap, ◌∙◌, arith}
use Rattle.std.specs.Prelude.{Option, Some, None}
use Rattle.task_moves.specs.declared.moves.owed.Move.{Move}
use Rattle.executor_parts.specs.Marks.{first_of, turn_after}
use Rattle.executor_model.specs.declared.call.Call.{Call}
use Rattle.executor_model.specs.declared.call.Reply.{Reply}
use Rattle.executor_model.specs.declared.event.Event.{Event}
use Rattle.executor_model.specs.declared.op.Hold.{Hold}
use Rattle.executor_model.specs.declared.op.ListOp.{ListOp}
use Rattle.executor_model.specs.declared.op.Look.TheVariants.{First}
use Rattle.executor_model.specs.declared.op.Op.{Op}
use Rattle.executor_model.specs.declared.op.Polled.{Polled}
use Rattle.executor_model.specs.declared.op.QueueOp.{QueueOp}
use Rattle.executor_model.specs.declared.op.RunOp.{RunOp}
use Rattle.executor_model.specs.declared.op.RunPoll.{RunPoll}
use Rattle.executor_model.specs.declared.op.Section.{Section}
use Rattle.executor_model.specs.declared.op.TickOp.{TickOp}
use Rattle.executor_model.specs.declared.op.UserOp.{UserOp}
use Rattle.executor_model.specs.declared.op.Waker.{Waker}
use Rattle.executor_model.specs.declared.op.WakerOp.{WakerOp}
use Rattle.executor_model.specs.declared.step.Hint.{Hint}
use Rattle.executor_model.specs.declared.step.UserEnd.{UserEnd}
use Rattle.executor_model.proofs.OwnQueues.Using.{Mild, mild-next}
use Rattle.executor_model.proofs.Quiet.Calls.{calling_of}
use Rattle.executor_model.proofs.Steps.ByParts.{by-act}
use Rattle.executor_model.proofs.Steps.Lift.{no_hint}
use Rattle.executor_model.proofs.Steps.Lists.{weigh-append}
use Rattle.executor_model.proofs.Steps.Parts.{Answers, Begins, Parts, Stay, Tells, by-begun, by-react, enters, lists, places, turns}
use Rattle.executor_model.proofs.Steps.Parts.{uses_up}
use Rattle.executor_model.specs.Acts.{copy_by, is_refused}
use Rattle.executor_model.specs.Acts as acts
use Rattle.executor_model.specs.ActsOfRuns.{call_by_reference, make_room_by, make_run_by, reschedule_by, wake_own}
use Rattle.executor_model.specs.Doing.{act}
use Rattle.executor_model.specs.Steps.{begun, drop_run, future_of, kept, poll_run, react, waits, with_future}
use Rattle.executor_model.specs.Weights.{weigh}
use Rattle.executor_model.specs.World.{Done, Ended, Listed, New, Stage, World, done, log, own_of, run_of, task}
use Rattle.machine_roads.specs.Alone.{alone, is_resting}
use Rattle.machine_roads.proofs.AloneKeeps.{alone_kept, due, due_resting}
use Rattle.machine_roads.proofs.Lists.{clash}

-- what a search is made of, and what goes on behind a future that a run took
abbrev pub seeks : Op → ℕ
seeks (Op.Queue QueueOp.TakeTurn) = 1
seeks (Op.Tick (TickOp.Search s)) = 1
seeks (Op.Tick (TickOp.Look s look)) = 1
seeks (Op.Tick (TickOp.CopyWaker s)) = 1
seeks (Op.Tick (TickOp.FallAsleep s)) = 1
seeks (Op.List (ListOp.LockRead x)) = 1
seeks (Op.Steal o) = 1
seeks (Op.Run (RunOp.TakeTurn x)) = 1
seeks (Op.Run (RunOp.SearchCommon x look)) = 1
seeks (Op.Run (RunOp.LookOwn x at left)) = 1
seeks _ = 0

pub mild_seeks : Mild seeks
mild_seeks = record {
  few = by;
  executor = λ a. refl;
  spawned = λ a f. refl;
  handle = λ a f. refl;
  handles = λ o. refl;
  take = λ look. refl;
}
  where
    by : (o : Op) → seeks o ≤ calling_of o
    by (Op.Queue QueueOp.TakeTurn) = omega arith
    by (Op.Tick (TickOp.Search s)) = omega arith
    by (Op.Tick (TickOp.Look s look)) = omega arith
    by (Op.Tick (TickOp.CopyWaker s)) = omega arith
    by (Op.Tick (TickOp.FallAsleep s)) = omega arith
    by (Op.List (ListOp.LockRead x)) = omega arith
    by (Op.Steal o) = omega arith
    by (Op.Run (RunOp.TakeTurn x)) = omega arith
    by (Op.Run (RunOp.SearchCommon x look)) = omega arith
    by (Op.Run (RunOp.LookOwn x at left)) = omega arith
    by _ = omega arith

none_copied : (b : Bool) (w : World) (f : ℕ) (held : Hold) → weigh seeks (copy_by b w f held).next ≡ 0
none_copied true w f held = refl
none_copied false w f held = refl

none_made : (b : Bool) (w : World) → weigh seeks (make_run_by b w).next ≡ 0
none_made true w = refl
none_made false w = refl

none_roomed : (b : Bool) (w : World) → weigh seeks (make_room_by b w).next ≡ 0
none_roomed true w = refl
none_roomed false w = refl

-- a run's own waker is called
none_woken : (p : ℕ) (w : World) (x : RunPoll) → weigh seeks (wake_own p w x).next ≡ 0
none_woken p w x =
    let v : World = log w (Event.WakerCalled p (Polled.Run x.run) x.poll x.waker) in
    omega (
      arith,
      weigh-append seeks (call_by_reference p v x.waker).next (Op.End Reply.Pending (Hold.Run x.run) ∷ []),
      by v x.waker,
    )
  where
    by : (v : World) (a : Waker) → weigh seeks (call_by_reference p v a).next ≡ 0
    by v (Waker.Task f) = mild-next seeks mild_seeks p no_hint (Op.Move Move.WakeByReference f) v refl
    by v (Waker.Outside y) = refl

none_left : (fs : List ℕ) (w : World) (r : ℕ) (a : Reply) → weigh seeks (reschedule_by fs w r a).next ≡ 0
none_left [] w r a = refl
none_left (f ∷ fs) w r a = refl

pub seeks_next : (p : ℕ) (h : Hint) (o : Op) (w : World) → waits o ≡ false → seeks o ≡ 0 → weigh seeks (act p h o w).next ≡ 0
seeks_next p h (Op.Queue QueueOp.TakeTurn) w goes none = absurd cc
seeks_next p h (Op.Tick (TickOp.Search s)) w goes none = absurd cc
seeks_next p h (Op.Tick (TickOp.Look s look)) w goes none = absurd cc
seeks_next p h (Op.Tick (TickOp.CopyWaker s)) w goes none = absurd cc
seeks_next p h (Op.Tick (TickOp.FallAsleep s)) w goes none = absurd cc
seeks_next p h (Op.User (UserOp.PollOwn x)) w goes none = absurd cc
seeks_next p h (Op.Waker (WakerOp.CopyWaker f held)) w goes none = none_copied (is_refused h (task w f)) w f held
seeks_next p h (Op.List (ListOp.LockWrite s)) w goes none = refl
seeks_next p h (Op.List (ListOp.Write Section.MakeRun)) w goes none = none_made h.refused w
seeks_next p h (Op.List (ListOp.Write (Section.Register x))) w goes none = refl
seeks_next p h (Op.List (ListOp.Write (Section.Unregister r a))) w goes none = refl
seeks_next p h (Op.List ListOp.UnlockWrite) w goes none = refl
seeks_next p h (Op.List (ListOp.LockRead x)) w goes none = absurd cc
seeks_next p h (Op.List ListOp.UnlockRead) w goes none = refl
seeks_next p h (Op.Steal o) w goes none = absurd cc
seeks_next p h (Op.Run RunOp.MakeRoom) w goes none = none_roomed h.refused w
seeks_next p h (Op.Run RunOp.ReturnRoom) w goes none = refl
seeks_next p h (Op.Run (RunOp.TakeTurn x)) w goes none = absurd cc
seeks_next p h (Op.Run (RunOp.SearchCommon x look)) w goes none = absurd cc
seeks_next p h (Op.Run (RunOp.LookOwn x at left)) w goes none = absurd cc
seeks_next p h (Op.Run (RunOp.WakeOwn x)) w goes none = none_woken p w x
seeks_next p h (Op.Run (RunOp.Reschedule r a)) w goes none = none_left (own_of w r) w r a
seeks_next p h (Op.End r held) w goes none = refl
seeks_next p h o w goes none = mild-next seeks mild_seeks p h o w refl

-- the turn stays

abbrev Stays : World → World → Type 0
Stays w v = v.urgent_turns ≡ w.urgent_turns

pub no_turn : (o : Op) → seeks o ≡ 0 → turns o ≡ false
no_turn (Op.Queue QueueOp.TakeTurn) none = absurd cc
no_turn (Op.Tick (TickOp.Search s)) none = absurd cc
no_turn (Op.Run (RunOp.TakeTurn x)) none = absurd cc
no_turn _ none = refl

parts_stay : (T : Event → Type 0) (turn place list enter : Bool) → turn ≡ false → Parts Stays T turn place list enter
parts_stay T turn place list enter none = record {
  aside = λ w v same. ap (λ (x : Stay). x.urgent_turns) (sym same);
  both = λ w v x one two. two ∙ one;
  moved = λ w f s. refl;
  stored = λ w f a. refl;
  placed = λ w f b may. refl;
  kept = λ w ws may. refl;
  listed = λ w b table leaving waking may. refl;
  entered = λ w s m may. refl;
  turned = λ w n may. absurd (clash none may);
  tells = λ w e told. refl;
}

pub turn_kept : (p : ℕ) (h : Hint) (o : Op) (w : World) → turns o ≡ false → Stays w (act p h o w).world
turn_kept p h o w none = by-act Stays p h o w (parts_stay (Tells p o) (turns o) (places o) (lists o) (enters o) none)

turn_stays : (p : ℕ) (h : Hint) (o : Op) (w : World) → seeks o ≡ 0 → Stays w (act p h o w).world
turn_stays p h o w none = turn_kept p h o w (no_turn o none)

users_stay : (p : ℕ) (h : Hint) (o : UserOp) (w : World) → Stays w (act p h (Op.User o) w).world
users_stay p h o w = turn_stays p h (Op.User o) w refl

pub alone_turn : (p : ℕ) (hints : List Hint) (w : World) (os : List Op) → due seeks os ≡ 0
    → Stays w (alone p hints (done w os)).world
alone_turn p hints w os none =
    alone_kept seeks Stays seeks_next turn_stays users_stay (λ w. refl) (λ u w x one two. two ∙ one) p hints w os none

-- a try takes one
pub try_turned : (p : ℕ) (hints : List Hint) (w : World) (below : List Op) → is_resting below ≡ true
    → is_resting (alone p hints (done w (Op.Queue QueueOp.TakeTurn ∷ below))).next ≡ true
    → (alone p hints (done w (Op.Queue QueueOp.TakeTurn ∷ below))).world.urgent_turns ≡ turn_after w.urgent_turns
try_turned p [] w below rests over = absurd cc
try_turned p (h ∷ hs) w below rests over =
    alone_turn p hs (acts.turned p w) (Op.Queue (QueueOp.Take (First (first_of w.urgent_turns))) ∷ below)
    (omega (arith, due_resting seeks below rests))

-- as a call begins

with_none : (w : World) (x : Option ℕ) (d : ℕ → Done) → ((f : ℕ) → weigh seeks (d f).next ≡ 0)
    → weigh seeks (with_future w x d).next ≡ 0
with_none w (Some f) d none = none f
with_none w None d none = refl

none_polled : (stage : Stage) (x : RunPoll) → weigh seeks (poll_run stage x) ≡ 0
none_polled New x = refl
none_polled Listed x = refl
none_polled Ended x = refl

none_dropped : (stage : Stage) (r : ℕ) → weigh seeks (drop_run stage r) ≡ 0
none_dropped New r = refl
none_dropped Listed r = refl
none_dropped Ended r = refl

abbrev pub is_still : Call → Bool
is_still Call.TryTick = false
is_still (Call.PollTick t b) = false
is_still Call.DropExecutor = false
is_still _ = true

pub begins_none : (p : ℕ) (w : World) (here : Option Waker) (c : Call) → is_still c ≡ true → weigh seeks (begun p w here c).next ≡ 0
begins_none p w here (Call.Wake k) still = with_none w (kept w k) _ (λ f. refl)
begins_none p w here (Call.WakeByRef k) still = with_none w (kept w k) _ (λ f. refl)
begins_none p w here (Call.Copy k) still = with_none w (kept w k) _ (λ f. refl)
begins_none p w here (Call.DropWaker k) still = with_none w (kept w k) _ (λ f. refl)
begins_none p w here Call.Keep still = with_none w (future_of here) _ (λ f. refl)
begins_none p w here Call.WakeSelf still = with_none w (future_of here) _ (λ f. refl)
begins_none p w here (Call.PollRun r b) still = none_polled (run_of w r).stage _
begins_none p w here (Call.DropRun r) still = none_dropped (run_of w r).stage r
begins_none p w here Call.TryTick still = absurd cc
begins_none p w here (Call.PollTick t b) still = absurd cc
begins_none p w here Call.DropExecutor still = absurd cc
begins_none p w here c still = refl

pub begins_turn : (p : ℕ) (w : World) (here : Option Waker) (c : Call) → (begun p w here c).world.urgent_turns ≡ w.urgent_turns
begins_turn p w here c = by-begun Stays p w here c (parts_stay (Begins p c) false (uses_up c) false false refl)

pub reacts_turn : (p : ℕ) (o : Op) (u : UserEnd) (w : World) → (react p o u w).world.urgent_turns ≡ w.urgent_turns
reacts_turn p o u w = by-react Stays p o u w (parts_stay (Answers p o) false false false false refl)
