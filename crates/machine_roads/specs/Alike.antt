-- When a whole call that a party makes alone leaves the machine where the plain scheduler's call leaves that.
use Rattle.std.specs.Prelude.{◌≡◌, ℕ, ◌≤◌, Bool, true, false, not, List, [], ◌∷◌, ◌++◌, length, Option, Some, None}
use Rattle.executor_parts.specs.declared.mark.Mark.{Mark}
use Rattle.task_moves.specs.declared.moves.state.State.{State}
use Rattle.task_moves.specs.AbstractTask as abstract
use Rattle.task_moves.specs.AbstractTask.Polled.{Waits}
use Rattle.executor_model.specs.declared.call.By.{By}
use Rattle.executor_model.specs.declared.call.Call.{Call}
use Rattle.executor_model.specs.declared.call.Call.TheVariants as call
use Rattle.executor_model.specs.declared.event.Event.TheVariants as event
use Rattle.executor_model.specs.declared.op.Op.{Op}
use Rattle.executor_model.specs.declared.op.Waker.{Waker}
use Rattle.executor_model.specs.declared.step.Hint.{Hint}
use Rattle.executor_model.specs.Acts.{is_copy_refused, is_refused}
use Rattle.executor_model.specs.Steps.{begun, future_of, kept, waker_of}
use Rattle.executor_model.specs.World.{World, Done, done, log, task}
use Rattle.plain_scheduler.specs.State.{Choice, Plain, Refusal}
use Rattle.plain_scheduler.specs.Moves as plain
use Rattle.plain_scheduler.specs.Calls.{does, is_granted, Spawn, Wake, Use, Copy, Release, Cancel, Detach, DropHandle, PollHandle, IsEmpty}
use Rattle.plain_scheduler.specs.Calls.{Leak, NewRun}
use Rattle.machine_roads.specs.View.{Output, wakes}
use Rattle.machine_roads.specs.Road.{Follows, waking_in}
use Rattle.machine_roads.specs.Alone.{alone, is_resting, HasAll}

-- a call that begins, in a poll by this waker if in one
abbrev pub begins : ℕ → Option Waker → Call → World → Done
begins p here c w = begun p (log w (event.CallBegun p c)) here c

-- and what lies below it
abbrev pub upon : List Op → Done → Done
upon below d = done d.world (d.next ++ below)

-- of any party that does nothing or stands in user code, in a poll by any waker or in none, where both stand alike
abbrev pub EachAlike : (ℕ → Option Waker → List Op → World → Plain Output Waker → Type 0) → Type 0
EachAlike So =
    (p : ℕ) (here : Option Waker) (below : List Op) (w : World) (q : Plain Output Waker) → is_resting below ≡ true
    → Follows w q → So p here below w q

-- where it is told so, it comes to its end, above what lies below, and leaves the world so
abbrev pub LeavesAlikeIf : (List Hint → Type 0) → ℕ → List Op → Done → Plain Output Waker → Type 0
LeavesAlikeIf So p below d q =
    (hints : List Hint) → So hints → HasAll p hints (upon below d) → is_resting (alone p hints (upon below d)).next ≡ true
    → ((alone p hints (upon below d)).next ≡ below) × Follows (alone p hints (upon below d)).world q

-- whatever it is told
abbrev pub LeavesAlike : ℕ → List Op → Done → Plain Output Waker → Type 0
LeavesAlike p below d q = LeavesAlikeIf (λ hints. Unit {0}) p below d q

-- whether memory is refused as it begins, or there are too many references of this task
abbrev pub refuses_first : List Hint → State → Bool
refuses_first [] s = false
refuses_first (h ∷ hs) s = is_refused h s

-- whether memory is refused as it begins
abbrev pub refused_first : List Hint → Bool
refused_first [] = false
refused_first (h ∷ hs) = h.refused

-- whether the copy of this waker is refused in the second thing to do
abbrev pub refuses_second : List Hint → World → Waker → Bool
refuses_second (g ∷ h ∷ hs) w a = is_copy_refused h w a
refuses_second _ w a = false

-- the plain scheduler tells who lay down last
module _ (p : ℕ) (here : Option Waker) (below : List Op) (w : World) (q : Plain Output Waker) where
  -- a wake by a kept waker, that goes or stays
  abbrev pub UsesAlike : Type 0
  UsesAlike =
      (c : Choice) (k f : ℕ) → kept w k ≡ Some f → length q.lying ≤ c.tells
      → LeavesAlike p below (begins p here (call.Wake k) w) (does wakes c (Use f) q)

  abbrev pub WakesAlike : Type 0
  WakesAlike =
      (c : Choice) (k f : ℕ) → kept w k ≡ Some f → length q.lying ≤ c.tells
      → LeavesAlike p below (begins p here (call.WakeByRef k) w) (does wakes c (Wake f) q)

  -- and by that of the own poll
  abbrev pub WakesItselfAlike : Type 0
  WakesItselfAlike =
      (c : Choice) (f : ℕ) → future_of here ≡ Some f → length q.lying ≤ c.tells
      → LeavesAlike p below (begins p here call.WakeSelf w) (does wakes c (Wake f) q)

  abbrev pub WakerGoesAlike : Type 0
  WakerGoesAlike =
      (c : Choice) (k f : ℕ) → kept w k ≡ Some f → length q.lying ≤ c.tells
      → LeavesAlike p below (begins p here (call.DropWaker k) w) (does wakes c (Release f) q)

  -- a spawn, also one that is refused
  abbrev pub SpawnsAlike : Type 0
  SpawnsAlike =
      (c : Choice) (m : Mark) → length q.lying ≤ c.tells
      → LeavesAlikeIf (λ hints. is_granted c.refusal ≡ not (refused_first hints)) p below (begins p here (call.Spawn m) w)
      (does wakes c (Spawn m) q)

  -- a cancel, with the call of who awaits the future
  abbrev pub CancelsAlike : Type 0
  CancelsAlike =
      (c : Choice) (f : ℕ) → length q.lying ≤ c.tells
      → LeavesAlike p below (begins p here (call.Cancel f) w) (does wakes c (Cancel f) q)

  -- a handle goes of a future whose output isn't there
  abbrev pub DetachesAlike : Type 0
  DetachesAlike =
      (c : Choice) (f : ℕ) → (plain.task f q).output ≡ None → length q.lying ≤ c.tells
      → LeavesAlike p below (begins p here (call.Detach f) w) (does wakes c (Detach f) q)

  abbrev pub HandleGoesAlike : Type 0
  HandleGoesAlike =
      (c : Choice) (f : ℕ) → (plain.task f q).output ≡ None → length q.lying ≤ c.tells
      → LeavesAlike p below (begins p here (call.DropHandle f) w) (does wakes c (DropHandle f) q)

  -- a copy of a kept waker, or of that of the own poll, also one that is refused
  abbrev pub CopiesAlike : Type 0
  CopiesAlike =
      (c : Choice) (k f : ℕ) → kept w k ≡ Some f
      → LeavesAlikeIf (λ hints. is_granted c.refusal ≡ not (refuses_first hints (task w f))) p below (begins p here (call.Copy k) w)
      (does wakes c (Copy f) q)

  abbrev pub KeepsAlike : Type 0
  KeepsAlike =
      (c : Choice) (f : ℕ) → future_of here ≡ Some f
      → LeavesAlikeIf (λ hints. is_granted c.refusal ≡ not (refuses_first hints (task w f))) p below (begins p here call.Keep w)
      (does wakes c (Copy f) q)

  -- a poll of a handle, with a copy of its waker where it has to wait
  abbrev pub HandlePollsAlike : Type 0
  HandlePollsAlike =
      (c : Choice) (f : ℕ) (b : By) → length q.lying ≤ c.tells
      → LeavesAlikeIf
      (λ hints. abstract.polled (plain.task f q) ≡ Waits → is_granted c.refusal ≡ not (refuses_second hints w (waker_of here b)))
      p below
      (begins p here (call.PollHandle f b) w)
      (does wakes c (PollHandle f (waker_of here b)) q)

  abbrev pub EmptyAlike : Type 0
  EmptyAlike = (c : Choice) → LeavesAlike p below (begins p here call.IsEmpty w) (does wakes c IsEmpty q)

  -- a leak, where it isn't static and the executor's drop hasn't dropped any
  abbrev pub LeaksAlike : Type 0
  LeaksAlike =
      (c : Choice) → q.is_static ≡ false → waking_in q.inside ≡ [] → length q.lying ≤ c.tells
      → LeavesAlike p below (begins p here call.Leak w) (does wakes c Leak q)

  -- a run is made, or that is refused, as memory is as it makes room or once it has the lock
  abbrev pub RunIsMadeAlike : Type 0
  RunIsMadeAlike =
      (c : Choice) (hints : List Hint) → HasAll p hints (upon below (begins p here call.NewRun w))
      → is_resting (alone p hints (upon below (begins p here call.NewRun w))).next ≡ true
      → (r : Refusal) × ((alone p hints (upon below (begins p here call.NewRun w))).next ≡ below)
      × Follows (alone p hints (upon below (begins p here call.NewRun w))).world (does wakes (record c { refusal = r }) NewRun q)
