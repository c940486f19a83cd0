-- What calls in progress use. A call that takes a handle, a tick, a run or a waker by value, or to write, keeps every other one
-- out until it has ended.
use Rattle.std.specs.Prelude.{◌≡◌, ℕ, ◌==◌, Bool, true, false, ◌||◌}
use Rattle.std.specs.List.{list_any}
use Rattle.executor_model.specs.declared.call.Call.{Call}
use Rattle.executor_model.specs.declared.call.Call.TheVariants.{Cancel, Copy, Detach, DropExecutor, DropHandle, DropRun, DropTick}
use Rattle.executor_model.specs.declared.call.Call.TheVariants.{IsEmpty, Leak, NewRun, NewTick, PollHandle, PollRun, PollTick}
use Rattle.executor_model.specs.declared.call.Call.TheVariants.{Spawn, TryTick, WakeByRef}
use Rattle.executor_model.specs.declared.op.Hold.TheVariants as hold
use Rattle.executor_model.specs.declared.op.Op.{Op}
use Rattle.executor_model.specs.declared.op.Op.TheVariants as op
use Rattle.executor_model.specs.Calls.{Begun, calls}
use Rattle.executor_model.specs.Steps.{Machine, stack}
use Rattle.executor_model.specs.Trace.{Trace, has, is_accepted}

-- such a call of some party is in progress
abbrev pub InProgress : (Begun → Bool) → Trace → Type 0
InProgress test trace = (q : ℕ) × (list_any test (calls q trace).begun ≡ true)

-- by what the calls name

abbrev pub names_handle : ℕ → Call → Bool
names_handle f (PollHandle g b) = f == g
names_handle f (Cancel g) = f == g
names_handle f (Detach g) = f == g
names_handle f (DropHandle g) = f == g
names_handle f _ = false

-- a spawn has the handle of the future that it has accepted until it ends
abbrev pub uses_handle : ℕ → Begun → Bool
uses_handle f b = names_handle f b.call || has (is_accepted f) b.own

-- a waker that is called by reference, or copied, is only read, so such calls keep out those alone that use it up
abbrev pub reads_waker : ℕ → Call → Bool
reads_waker k (WakeByRef j) = k == j
reads_waker k (Copy j) = k == j
reads_waker k _ = false

abbrev pub names_tick : ℕ → Call → Bool
names_tick t (PollTick u b) = t == u
names_tick t (DropTick u) = t == u
names_tick t _ = false

abbrev pub names_run : ℕ → Call → Bool
names_run r (PollRun o b) = r == o
names_run r (DropRun o) = r == o
names_run r _ = false

-- the end of a call that has run r until then
abbrev pub lets_go : ℕ → Op → Bool
lets_go r (op.End a (hold.Run o)) = r == o
lets_go r _ = false

-- such an end is still to come: of a call that names the run, or of the one that makes it, of which nothing else tells
abbrev pub IsInMaking : ℕ → Machine → Type 0
IsInMaking r s = (q : ℕ) × (list_any (lets_go r) (stack s q) ≡ true)

-- what is done by the executor's owner alone, and what others do on the executor
abbrev pub is_owners_call : Call → Bool
is_owners_call Leak = true
is_owners_call DropExecutor = true
is_owners_call _ = false

abbrev pub uses_executor : Call → Bool
uses_executor (Spawn m) = true
uses_executor TryTick = true
uses_executor IsEmpty = true
uses_executor NewTick = true
uses_executor (PollTick t b) = true
uses_executor (DropTick t) = true
uses_executor NewRun = true
uses_executor (PollRun r b) = true
uses_executor (DropRun r) = true
uses_executor _ = false

abbrev pub is_leak : Call → Bool
is_leak Leak = true
is_leak _ = false
