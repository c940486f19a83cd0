-- When a lone call leaves both alike where no task waits for a wake, as behind the executor's drop, whether that was made or not.
use Rattle.std.specs.Prelude.{◌≡◌, ℕ, ◌≤◌, true, false, not, List, [], ◌∷◌, length, Some, None, is_some}
use Rattle.task_moves.specs.AbstractTask as abstract
use Rattle.task_moves.specs.AbstractTask.Polled.{Waits}
use Rattle.executor_model.specs.declared.call.By.{By}
use Rattle.executor_model.specs.declared.call.Call.{Call}
use Rattle.executor_model.specs.declared.call.Call.TheVariants as call
use Rattle.executor_model.specs.declared.op.Waker.{Waker}
use Rattle.executor_model.specs.declared.step.Hint.{Hint}
use Rattle.executor_model.specs.declared.step.Step.{Step}
use Rattle.executor_model.specs.declared.step.Step.TheVariants.{Go}
use Rattle.executor_model.specs.Acts.{is_copy_refused, is_refused}
use Rattle.executor_model.specs.Steps.{Machine, is_on_executor, kept, waker_of}
use Rattle.executor_model.specs.World.{task}
use Rattle.executor_laws.specs.LoneEnds.{IsLoneCall}
use Rattle.plain_scheduler.specs.State.{Choice, Plain}
use Rattle.plain_scheduler.specs.Moves as plain
use Rattle.plain_scheduler.specs.Calls.{does, is_granted, Wake, Use, Copy, Release, Cancel, Detach, DropHandle, PollHandle, Ends}
use Rattle.machine_roads.specs.View.{Output, wakes}
use Rattle.machine_roads.specs.Alike.{begins, LeavesAlike}
use Rattle.machine_roads.specs.Road.{Follows}
use Rattle.machine_roads.specs.Lone.{NoneWaits}

-- these steps of a lone call lead there, and no task waits there
abbrev pub LeadsBehind : Machine → ℕ → Call → List Step → Plain Output Waker → Type 0
LeadsBehind s p c steps q = (new : Machine) → IsLoneCall p c steps s new → Follows new.world q × NoneWaits q

module _ (s : Machine) (q : Plain Output Waker) where
  -- a call of a waker or a handle that leaves the world so leaves the machine so
  abbrev pub LoneCallIsBehind : Type 0
  LoneCallIsBehind =
      (p : ℕ) (c : Call) (steps : List Step) (r : Plain Output Waker) → NoneWaits q → is_on_executor c ≡ false
      → LeavesAlike p [] (begins p None c s.world) r → LeadsBehind s p c steps r

  -- wakes by kept wakers, these wakers' drops and their copies
  abbrev pub LoneUsesBehind : Type 0
  LoneUsesBehind =
      (p k f : ℕ) (c : Choice) (steps : List Step) → NoneWaits q → kept s.world k ≡ Some f
      → LeadsBehind s p (call.Wake k) steps (does wakes c (Use f) q)

  abbrev pub LoneWakesBehind : Type 0
  LoneWakesBehind =
      (p k f : ℕ) (c : Choice) (steps : List Step) → NoneWaits q → kept s.world k ≡ Some f
      → LeadsBehind s p (call.WakeByRef k) steps (does wakes c (Wake f) q)

  abbrev pub LoneWakerGoesBehind : Type 0
  LoneWakerGoesBehind =
      (p k f : ℕ) (c : Choice) (steps : List Step) → NoneWaits q → kept s.world k ≡ Some f
      → LeadsBehind s p (call.DropWaker k) steps (does wakes c (Release f) q)

  -- also one that is refused
  abbrev pub LoneCopiesBehind : Type 0
  LoneCopiesBehind =
      (p k f : ℕ) (c : Choice) (h : Hint) (steps : List Step) → NoneWaits q → kept s.world k ≡ Some f
      → is_granted c.refusal ≡ not (is_refused h (task s.world f))
      → LeadsBehind s p (call.Copy k) (Go p h ∷ steps) (does wakes c (Copy f) q)

  -- a cancel, and a handle that goes of a future whose output isn't there
  abbrev pub LoneCancelsBehind : Type 0
  LoneCancelsBehind =
      (p f : ℕ) (c : Choice) (steps : List Step) → NoneWaits q → length q.lying ≤ c.tells
      → LeadsBehind s p (call.Cancel f) steps (does wakes c (Cancel f) q)

  abbrev pub LoneDetachesBehind : Type 0
  LoneDetachesBehind =
      (p f : ℕ) (c : Choice) (steps : List Step) → NoneWaits q → (plain.task f q).output ≡ None → length q.lying ≤ c.tells
      → LeadsBehind s p (call.Detach f) steps (does wakes c (Detach f) q)

  abbrev pub LoneHandleGoesBehind : Type 0
  LoneHandleGoesBehind =
      (p f : ℕ) (c : Choice) (steps : List Step) → NoneWaits q → (plain.task f q).output ≡ None → length q.lying ≤ c.tells
      → LeadsBehind s p (call.DropHandle f) steps (does wakes c (DropHandle f) q)

  -- and of one whose output is there, with the end of the output's drop
  abbrev pub LoneDetachLosesBehind : Type 0
  LoneDetachLosesBehind =
      (p f : ℕ) (c d : Choice) (steps : List Step) → NoneWaits q → is_some (plain.task f q).output ≡ true
      → LeadsBehind s p (call.Detach f) steps (does wakes d Ends (does wakes c (Detach f) q))

  abbrev pub LoneGoesWithOutputBehind : Type 0
  LoneGoesWithOutputBehind =
      (p f : ℕ) (c d : Choice) (steps : List Step) → NoneWaits q → is_some (plain.task f q).output ≡ true
      → LeadsBehind s p (call.DropHandle f) steps (does wakes d Ends (does wakes c (DropHandle f) q))

  -- a poll of a handle that finds an answer, or has to wait
  abbrev pub LoneHandlePollsBehind : Type 0
  LoneHandlePollsBehind =
      (p f : ℕ) (c : Choice) (b : By) (steps : List Step) → NoneWaits q → ¬ (abstract.polled (plain.task f q) ≡ Waits)
      → length q.lying ≤ c.tells → LeadsBehind s p (call.PollHandle f b) steps (does wakes c (PollHandle f (waker_of None b)) q)

  abbrev pub LoneHandleWaitsBehind : Type 0
  LoneHandleWaitsBehind =
      (p f : ℕ) (c : Choice) (b : By) (g h : Hint) (steps : List Step) → NoneWaits q
      → abstract.polled (plain.task f q) ≡ Waits → length q.lying ≤ c.tells
      → is_granted c.refusal ≡ not (is_copy_refused h s.world (waker_of None b))
      → LeadsBehind s p (call.PollHandle f b) (Go p g ∷ Go p h ∷ steps) (does wakes c (PollHandle f (waker_of None b)) q)
