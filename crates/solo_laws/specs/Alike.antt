-- What calls of an executor of one owner and of the plain scheduler have in common: where both stand alike they leave both alike.
-- The plain scheduler is told by its choices what the executor does: who lay down last is told, the turn names the mark, and a copy is
-- refused where a task has as many references as it may.
use Rattle.std.specs.Prelude.{◌≡◌, ℕ, ◌<◌, ◌≤◌, Bool, true, false, if◌then◌else◌, List, ◌∷◌, length, Option, Some, None}
use Rattle.task_moves.specs.declared.local_task.answers.Polled.{Polled}
use Rattle.task_moves.specs.declared.local_task.answers.Polled.TheVariants.{Pending as PendingPoll}
use Rattle.solo.specs.declared.names.Task.{Task}
use Rattle.solo.specs.declared.names.SoloWaker.{SoloWaker}
use Rattle.solo.specs.declared.names.SoloWaker.TheVariants.{Task as OfTask, Outside}
use Rattle.solo.specs.declared.owed.Lent.{Lent}
use Rattle.solo.specs.declared.solo.Solo.{Solo}
use Rattle.solo.specs.Cells.{choose}
use Rattle.solo.specs.Lines.{mark_of_turn}
use Rattle.solo.specs.Solo as solo
use Rattle.plain_scheduler.specs.State.{Choice, Granted, AtOnce, Code, Poll, Taker, Run, Plain}
use Rattle.plain_scheduler.specs.Moves.{task}
use Rattle.plain_scheduler.specs.Calls.{Call, TryTick, Wake, Use, Copy, Release, PollHandle, Cancel, Detach, DropHandle, Pends}
use Rattle.plain_scheduler.specs.Calls.{EndsWith, is_granted, does}
use Rattle.solo_laws.specs.Road.{HasLife, IsNamed, wakes}

-- the waker in whose place another is left
abbrev pub replaced_by : {T X : Type 0} → Polled T (SoloWaker X) → Option (SoloWaker X)
replaced_by (PendingPoll replaced) = replaced
replaced_by _ = None

module _ {F T X : Type 0} where
  -- the owner calls a waker that was handed out, or drops it, or copies one
  abbrev pub calls : Option (SoloWaker X) → Solo F T X → Solo F T X
  calls (Some (OfTask task)) s = solo.woken_and_released task s
  calls _ s = s

  abbrev pub lets_go : Option (SoloWaker X) → Solo F T X → Solo F T X
  lets_go (Some (OfTask task)) s = solo.released task s
  lets_go _ s = s

  abbrev pub copies : SoloWaker X → Solo F T X → Solo F T X
  copies (OfTask task) s = solo.held task s
  copies (Outside waker) s = s

  -- a cancel, and the call of who awaits the task
  abbrev pub cancelled : Task → Solo F T X → Solo F T X
  cancelled task s = calls (solo.cancel_answer task s).awaiter (solo.cancelled task s)

  abbrev pub registered : Task → SoloWaker X → Solo F T X → Solo F T X
  registered task w s = lets_go (replaced_by (solo.poll_answer task w s)) (solo.polled task w s)

  -- a poll of a handle: where it has to wait, with a copy of the waker, if there is one
  abbrev pub handle_polled : Bool → Task → SoloWaker X → Solo F T X → Solo F T X
  handle_polled copied task w s =
      choose (solo.must_wait task s) (choose copied (registered task w (copies w s)) s) (solo.polled task w s)

-- one future is taken in a try and in a poll of a tick
abbrev pub takes_one : {A : Type 0} → Taker A → Bool
takes_one (Run r w) = false
takes_one by = true

-- where both stand alike, by names of futures, they do after a call
module _ {F T X : Type 0} (name : ℕ → Task) (Alike : Solo F T X → Plain T (SoloWaker X) → Type 0) (s : Solo F T X)
    (p : Plain T (SoloWaker X)) where
  abbrev pub TakesAlike : Type 0
  TakesAlike =
      (c : Choice) → c.first ≡ mark_of_turn s.lines.turn → length p.lying ≤ c.tells → HasLife 1 s.lines
      → Alike (solo.taken s) (does wakes c TryTick p)

  -- a call on a task is one of the plain scheduler, where so many more tasks may come into a queue
  abbrev pub CallsAlike : ℕ → (Task → Solo F T X → Solo F T X) → (ℕ → Call T (SoloWaker X)) → Type 0
  CallsAlike more call its =
      (c : Choice) (f : ℕ) → f < length p.futures → length p.lying ≤ c.tells → HasLife more s.lines
      → Alike (call (name f) s) (does wakes c (its f) p)

  abbrev pub WakesAlike : Type 0
  WakesAlike = CallsAlike 2 solo.woken Wake

  abbrev pub ReleasesAlike : Type 0
  ReleasesAlike = CallsAlike 2 solo.released Release

  abbrev pub UsesAlike : Type 0
  UsesAlike = CallsAlike 2 solo.woken_and_released Use

  abbrev pub DetachesAlike : Type 0
  DetachesAlike = CallsAlike 2 solo.detached Detach

  -- with the call of who awaits it
  abbrev pub CancelsAlike : Type 0
  CancelsAlike = CallsAlike 5 cancelled Cancel

  abbrev pub HandleDropsAlike : Type 0
  HandleDropsAlike = CallsAlike 8 (λ task s. solo.detached task (cancelled task s)) DropHandle

  -- a copy of a task's waker, also one that is refused
  abbrev pub CopiesAlike : Type 0
  CopiesAlike =
      (c : Choice) (f : ℕ) → f < length p.futures → c.refusal ≡ (if solo.may_hold (name f) s then Granted else AtOnce)
      → Alike (solo.held (name f) s) (does wakes c (Copy f) p)

  -- the end of a poll in a try or a tick that gave no output, with what was lent for it
  abbrev pub PendsAlike : (ℕ → Lent) → Type 0
  PendsAlike its =
      (c : Choice) (f : ℕ) (by : Taker (SoloWaker X)) → takes_one by ≡ true → (rest : List (Code T (SoloWaker X))) (future : F)
      → p.inside ≡ Poll f by ∷ rest → length p.lying ≤ c.tells → HasLife 2 s.lines
      → Alike (solo.settled_pending (its f) future s) (does wakes c Pends p)

  -- and the end of one that gave an output: until its future is dropped it is nothing to the executor
  abbrev pub GivesAlike : Type 0
  GivesAlike =
      (c : Choice) (f : ℕ) (by : Taker (SoloWaker X)) (rest : List (Code T (SoloWaker X))) (v : T) → p.inside ≡ Poll f by ∷ rest
      → Alike s (does wakes c (EndsWith v) p)

  -- a poll of a handle that is there, with a copy of its waker where that is to be left
  abbrev pub HandlesAlike : Type 0
  HandlesAlike =
      (c : Choice) (f : ℕ) (w : SoloWaker X) → f < length p.futures → (task f p).handle ≡ true
      → ((t : Task) → w ≡ OfTask t → IsNamed name (length p.futures) t × (is_granted c.refusal ≡ solo.may_hold t s))
      → length p.lying ≤ c.tells → HasLife 2 s.lines
      → Alike (handle_polled (is_granted c.refusal) (name f) w s) (does wakes c (PollHandle f w) p)
