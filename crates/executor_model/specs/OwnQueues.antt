-- What holds of the runs' own queues, and of the list of these with its lock.
use Rattle.std.specs.Prelude.{◌≡◌, ◌⊎◌, ℕ, ◌+◌, ◌≤◌, ◌==◌, true, [], length, cond}
use Rattle.executor_model.specs.declared.op.ListOp.TheVariants as list_op
use Rattle.executor_model.specs.declared.op.Op.{Op}
use Rattle.executor_model.specs.declared.op.Op.TheVariants as op
use Rattle.executor_model.specs.declared.op.RunOp.TheVariants as run_op
use Rattle.executor_model.specs.declared.op.StealOp.{StealOp}
use Rattle.executor_model.specs.declared.op.StealOp.TheVariants as steal_op
use Rattle.executor_model.specs.declared.op.Then.{Then}
use Rattle.executor_model.specs.declared.op.Then.TheVariants as then
use Rattle.executor_model.specs.declared.op.TickOp.TheVariants as tick_op
use Rattle.executor_model.specs.ActsOfRuns.{own_places}
use Rattle.executor_model.specs.Rows.{running_of}
use Rattle.executor_model.specs.Sound.{times}
use Rattle.executor_model.specs.Standing.{CallsItself}
use Rattle.executor_model.specs.Steps.{Machine}
use Rattle.executor_model.specs.Weights.{is_run, same, weigh_all}
use Rattle.executor_model.specs.World.{Stage, New, Listed, Ended, own_of, run_of}

-- a run is in one call at most, which has one thing to do with it
abbrev pub IsUsedOnce : Machine → ℕ → Type 0
IsUsedOnce s r = weigh_all (running_of r) s.parties ≤ 1

-- room

abbrev pub filling_steal : ℕ → StealOp → ℕ
filling_steal r (steal_op.Length s) = 0
filling_steal r (steal_op.OwnLength s n) = 0
filling_steal r (steal_op.Take s more) = cond (r == s.poll.run) (more + 1) 0
filling_steal r (steal_op.Put s more f) = cond (r == s.poll.run) (more + 1) 0

-- how many places of run r's own queue a steal may still fill
abbrev pub filling_of : ℕ → Op → ℕ
filling_of r (op.Steal o) = filling_steal r o
filling_of r _ = 0

-- for these there are free places, since a run alone appends to its own queue
abbrev pub HasOwnRoom : Machine → ℕ → Type 0
HasOwnRoom s r = length (own_of s.world r) + weigh_all (filling_of r) s.parties ≤ own_places s.world r

-- and there are never more than 512 Runnables
abbrev pub IsWithinBound : Machine → ℕ → Type 0
IsWithinBound s r = length (own_of s.world r) ≤ 512

-- the list

abbrev pub is_listed : Stage → ℕ
is_listed New = 0
is_listed Listed = 1
is_listed Ended = 0

-- the list holds the own queue of each run that is listed once, and no other
abbrev pub ListAgrees : Machine → ℕ → Type 0
ListAgrees s r = times r s.world.listed ≡ is_listed (run_of s.world r).stage

-- its lock

abbrev pub writes_of : Op → ℕ
writes_of (op.List (list_op.Write s)) = 1
writes_of (op.List list_op.UnlockWrite) = 1
writes_of _ = 0

abbrev pub walks_then : Then → ℕ
walks_then (then.Found f) = 0
walks_then (then.StealPlain f) = 0
walks_then (then.Run f) = 0
walks_then (then.Walk at left) = 1

abbrev pub walks_steal : StealOp → ℕ
walks_steal (steal_op.Length s) = walks_then s.then
walks_steal (steal_op.OwnLength s n) = walks_then s.then
walks_steal (steal_op.Take s more) = walks_then s.then
walks_steal (steal_op.Put s more f) = walks_then s.then

-- a walk is on its way, and has still to give the read lock back
abbrev pub reads_of : Op → ℕ
reads_of (op.List list_op.UnlockRead) = 1
reads_of (op.Steal o) = walks_steal o
reads_of (op.Run (run_op.LookOwn x at left)) = 1
reads_of _ = 0

-- who has the lock has one thing still to do under it, or to give it back
pub record LockAgrees (s : Machine) : Type 0 where
  pub writing : weigh_all writes_of s.parties ≡ cond s.world.lock.writing 1 0
  pub reading : weigh_all reads_of s.parties ≡ s.world.lock.readers
  pub apart : s.world.lock.writing ≡ true → s.world.lock.readers ≡ 0

-- who runs what stands there

-- run r has found its own queue empty, and searches on or falls asleep
abbrev pub empty_of : ℕ → Op → ℕ
empty_of r (op.Run (run_op.TakeTurn x)) = same r x.run
empty_of r (op.Run (run_op.SearchCommon x l)) = same r x.run
empty_of r (op.List (list_op.LockRead x)) = same r x.run
empty_of r (op.Tick (tick_op.Look s l)) = is_run r s.who
empty_of r (op.Tick (tick_op.CopyWaker s)) = is_run r s.who
empty_of r (op.Tick (tick_op.FallAsleep s)) = is_run r s.who
empty_of r _ = 0

-- as a run alone appends to its own queue, it is still empty then
abbrev pub IsEmptyMeanwhile : Machine → ℕ → Type 0
IsEmptyMeanwhile s r = 1 ≤ weigh_all (empty_of r) s.parties → own_of s.world r ≡ []

-- what stands in a run's own queue belongs to a run in its poll or its drop, or to one whose last poll called its own waker
abbrev pub OwnQueueHasRunner : Machine → ℕ → Type 0
OwnQueueHasRunner s r = 1 ≤ length (own_of s.world r) → (1 ≤ weigh_all (running_of r) s.parties) ⊎ CallsItself r s.world.trace
