-- No call that begins loses a future.
use Rattle.std.proofs.Common.{◌≡◌, ℕ, if◌then◌else◌, Bool, true, false, [], ◌∷◌, ◌++◌, slice_get}
use Rattle.task_moves.specs.AbstractTask as abstract
use Rattle.task_moves.specs.AbstractTask.{AbstractTask}
use Rattle.solo.specs.declared.names.SoloWaker.{SoloWaker}
use Rattle.plain_scheduler.specs.State.{ATick, Choice, Done, DropOwn, Finished, Made, NoMemory, Plain, Tick, Try, PollOwn}
use Rattle.plain_scheduler.specs.Lists.{or}
use Rattle.plain_scheduler.specs.Moves.{answers, becomes, put, task, tell}
use Rattle.plain_scheduler.specs.Moves as moves
use Rattle.plain_scheduler.specs.Calls as calls
use Rattle.solo_laws.specs.Road.{wakes}
use Rattle.solo_laws.proofs.Following.Kept.{AllKept, Keeps, becomes_kept, leaves_kept, put_kept, tell_kept}
use Rattle.solo_laws.proofs.Following.Lasting.{Lasts, release_lasts, use_lasts, wake_lasts}
use Rattle.solo_laws.proofs.Following.NoneLost.{cancel_kept, detach_kept, handle_kept, leak_kept, spawn_kept, take_kept}

module _ {T X : Type 0} (c : Choice) where
  abbrev loud : Plain T (SoloWaker X) → Plain T (SoloWaker X)
  loud p = tell wakes c p

  -- a call that isn't the executor's drop, nor the end of a user's code
  abbrev pub is_begun : calls.Call T (SoloWaker X) → Bool
  is_begun calls.Call.DropExecutor = false
  is_begun calls.Call.Pends = false
  is_begun (calls.Call.EndsWith v) = false
  is_begun calls.Call.Ends = false
  is_begun _ = true

  task_kept : (f : ℕ) (h : AbstractTask T (SoloWaker X) → AbstractTask T (SoloWaker X)) → Lasts h
      → AllKept {T = T} {X = X} (λ p. answers Done (becomes wakes loud f (h (task f p)) p))
  task_kept f h lasts p = becomes_kept c loud (tell_kept c) f (h (task f p)) p (lasts (task f p))

  granted_kept : (does : Plain T (SoloWaker X) → Plain T (SoloWaker X)) → AllKept does
      → (p : Plain T (SoloWaker X)) (b : Bool) → Keeps p (if b then does p else answers NoMemory p)
  granted_kept does all p true = all p
  granted_kept does all p false = λ aside has. has

  either_kept : (b : Bool) (p q z : Plain T (SoloWaker X)) → Keeps p q → Keeps p z → Keeps p (if b then q else z)
  either_kept true p q z one two = one
  either_kept false p q z one two = two

  pub call_kept : (call : calls.Call T (SoloWaker X)) → is_begun call ≡ true → AllKept {T = T} {X = X} (calls.does wakes c call)
  call_kept (calls.Call.Spawn mark) is p = spawn_kept c mark p
  call_kept calls.Call.TryTick is p = take_kept c Try p
  call_kept calls.Call.IsEmpty is p = λ aside has. has
  call_kept (calls.Call.Wake f) is p = task_kept f abstract.wake wake_lasts p
  call_kept (calls.Call.Use f) is p = task_kept f (λ t. abstract.release (abstract.wake t)) use_lasts p
  call_kept (calls.Call.Copy f) is p =
      granted_kept (λ p. answers Made (put f (abstract.copy (task f p)) p))
      (λ p. put_kept c f (abstract.copy (task f p)) p (λ idle. idle)) p (calls.is_granted c.refusal)
  call_kept (calls.Call.Release f) is p = task_kept f abstract.release release_lasts p
  call_kept (calls.Call.PollHandle f w) is p = handle_kept c f w (abstract.polled (task f p)) p
  call_kept (calls.Call.Cancel f) is p = cancel_kept c f p
  call_kept (calls.Call.Detach f) is p = detach_kept c f p
  call_kept (calls.Call.DropHandle f) is p = λ aside has. detach_kept c f (calls.cancel wakes c f p) aside (cancel_kept c f p aside has)
  call_kept calls.Call.NewTick is p = granted_kept (answers Made) (λ p aside has. has) p (calls.is_granted c.refusal)
  call_kept (calls.Call.PollTick t w) is p = take_kept c (Tick t w) p
  call_kept (calls.Call.DropTick t) is p = leaves_kept c (ATick t) p
  call_kept calls.Call.NewRun is p =
      granted_kept (λ p. answers Made (record p { runs = p.runs ++ record { taken = 0; is_over = false } ∷ [] })) (λ p aside has. has) p
      (calls.is_granted c.refusal)
  call_kept (calls.Call.PollRun r w) is p =
      either_kept (or (slice_get p.runs r) (λ run. run.is_over) true) p (answers Finished p) (moves.enters (PollOwn r w) p)
      (λ aside has. has) (λ aside has. has)
  call_kept (calls.Call.DropRun r) is p =
      either_kept (or (slice_get p.runs r) (λ run. run.is_over) true) p (answers Done p) (moves.enters (DropOwn r Done) p)
      (λ aside has. has) (λ aside has. has)
  call_kept calls.Call.Leak is p = leak_kept c p
  call_kept calls.Call.DropExecutor is p = absurd cc
  call_kept calls.Call.Pends is p = absurd cc
  call_kept (calls.Call.EndsWith v) is p = absurd cc
  call_kept calls.Call.Ends is p = absurd cc
