-- A poll of a run is answered that its own future is ready only where the run has ended: its own queue has gone from the
-- list of queues, and comes there no more. So a poll of one whose queue is in the list isn't answered so, whatever it found.
use Rattle.std.specs.Prelude.{◌≡◌, ℕ, Some, slice_get}
use Rattle.executor_model.specs.declared.call.Reply.TheVariants.{Ready}
use Rattle.executor_model.specs.declared.event.Event.TheVariants.{RunPolled}
use Rattle.executor_model.specs.AwaiterKept.{EndsWith, since}
use Rattle.executor_model.specs.Steps.{Machine}
use Rattle.executor_model.specs.World.{Ended, run_of}

-- each poll of run r that was answered so
abbrev pub IsReadyAtItsEnd : Machine → ℕ → Type 0
IsReadyAtItsEnd s r =
    (party poll : ℕ) → slice_get s.world.trace poll ≡ Some (RunPolled party r) →
    EndsWith party Ready (since poll s.world.trace) → (run_of s.world r).stage ≡ Ended
