-- What the machine's own trace and world say of the memory that is refused in an act.
use Rattle.std.specs.Prelude.{ℕ, nat_lt, Bool, true, false, List, [], ◌∷◌, length, Option}
use Rattle.executor_model.specs.Steps.{Machine}
use Rattle.task_moves.specs.AbstractTask as abstract
use Rattle.plain_scheduler.specs.State.{AtOnce, Choice, Event, Granted, Later, Plain, Refusal}
use Rattle.plain_scheduler.specs.Moves.{task}
use Rattle.plain_scheduler.specs.Calls.{Call, Copy, Ends, NewRun, NewTick, Pends, PollHandle, PollTick, Spawn}
use Rattle.machine_roads.specs.Refused.{in_vain}
use Rattle.machine_roads.specs.Seeing.{heard_in}
use Rattle.machine_roads.specs.Within.{Act}
use Rattle.two_roads.specs.Renaming.{is_refusal}

abbrev pub has_to_wait : {T : Type 0} → abstract.Polled T → Bool
has_to_wait abstract.Polled.Waits = true
has_to_wait _ = false

-- these calls alone ask for memory: a poll of a handle where it has to wait, and the end of code where a run then searches in vain
abbrev pub asks_memory : {T A : Type 0} → (A → Option ℕ) → Choice → Plain T A → Call T A → Bool
asks_memory wakes c p (Spawn m) = true
asks_memory wakes c p (Copy f) = true
asks_memory wakes c p (PollHandle f w) = has_to_wait (abstract.polled (task f p))
asks_memory wakes c p NewTick = true
asks_memory wakes c p (PollTick t w) = true
asks_memory wakes c p NewRun = true
asks_memory wakes c p Pends = in_vain wakes c Pends p
asks_memory wakes c p Ends = in_vain wakes c Ends p
asks_memory wakes c p _ = false

-- the last of these is the answer that there is no memory
abbrev pub ends_refused : {T A : Type 0} → List (Event T A) → Bool
ends_refused [] = false
ends_refused (e ∷ []) = is_refusal e
ends_refused (e ∷ f ∷ es) = ends_refused (f ∷ es)

-- memory is refused at once, or, where one more sleeps behind that, once a tick or a run lies
abbrev pub refused_so : Bool → Bool → Refusal
refused_so false more = Granted
refused_so true false = AtOnce
refused_so true true = Later

-- so it is in an act: the trace ends with such an answer, and the world has the wakers of those that sleep
abbrev pub refused_in : Machine → Act → Refusal
refused_in s a =
    refused_so (ends_refused (heard_in a.left.world.trace))
    (nat_lt (length s.world.sleepers.wakers) (length a.left.world.sleepers.wakers))
