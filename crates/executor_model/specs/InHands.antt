-- Somebody can always ask for an open future: by its handle, by a waker, or by what stands in a queue or is under way.
use Rattle.std.specs.Prelude.{◌≡◌, ◌⊎◌, ℕ, ◌+◌, ◌<◌, ◌≤◌, true, false, length}
use Rattle.executor_model.specs.LastTold.{IsOpen}
use Rattle.executor_model.specs.Sound.{pend, living, tokens}
use Rattle.executor_model.specs.Steps.{Machine}
use Rattle.executor_model.specs.Trace.{has, is_detached}
use Rattle.executor_model.specs.World.{task}

-- the handle of future f is there, and it wasn't told that it went
abbrev pub HasHandle : Machine → ℕ → Type 0
HasHandle s f = ((task s.world f).handle ≡ true) × (has (is_detached f) s.world.trace ≡ false)

-- a waker of it lives, or a Runnable, an unfinished run or a closing call of it is there
abbrev pub HasAsker : Machine → ℕ → Type 0
HasAsker s f = 1 ≤ tokens s.world f (pend f s.parties) + living s.world f (pend f s.parties)

-- where the last of these goes, the task is closed in that step, so that the future is dropped and not forgotten
abbrev pub IsInHands : Machine → ℕ → Type 0
IsInHands s f = f < length s.world.tasks → IsOpen s.world f → HasHandle s f ⊎ HasAsker s f
