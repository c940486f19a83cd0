-- What a store stands for, and room for what one thing to do may add.
use Rattle.std.specs.Prelude.{◌≡◌, ◌+◌, ◌^◌, ◌<◌, ◌≤◌, true, List, ◌++◌, length, map, reverse, vec_len, Vec}
use Rattle.std.specs.Global.{Global}
use Rattle.std.specs.Vec.{vec_capacity}
use Rattle.std.specs.VecDeque.{deque_len, deque_capacity}
use Rattle.executor_model.specs.declared.op.Op.{Op}
use Rattle.executor_model.specs.World.{World, Done}
use Rattle.executor_model.specs.Steps.{Machine}
use Rattle.executor_core.specs.TicksAndRuns as ticks_and_runs
use Rattle.executor_core.specs.declared.store.Store.{Store}

abbrev pub world_of : Store → World
world_of s = record {
  is_static = s.is_static;
  limit = s.entries.limit;
  tasks = s.tasks.items;
  awaiters = s.awaiters.items;
  inside = s.entries.inside;
  marks = s.marks.items;
  queues = s.queues.queues;
  urgent_turns = s.urgent_turns;
  table = s.entries.table;
  leaving = s.entries.leaving;
  waking = s.waking.items;
  wakers = s.wakers.items;
  ticks = s.ticks_and_runs.ticks.places;
  runs = s.ticks_and_runs.runs.runs;
  own = s.ticks_and_runs.runs.own;
  listed = s.ticks_and_runs.runs.listed;
  lock = s.ticks_and_runs.runs.lock;
  sleepers = s.ticks_and_runs.flagged_sleepers.sleepers;
  notified = s.ticks_and_runs.flagged_sleepers.notified;
  gone = s.gone;
  trace = s.trace.items;
}

-- the lists may have one more each, the wakers to be woken all of the table beside, and the trace five; one more reader of
-- the list of queues can be counted
pub record HasRoom (s : Store) : Type 0 where
  pub tasks : vec_len s.tasks + 1 ≤ vec_capacity s.tasks
  pub awaiters : vec_len s.awaiters + 1 ≤ vec_capacity s.awaiters
  pub marks : vec_len s.marks + 1 ≤ vec_capacity s.marks
  pub queues : s.queues.has_room ≡ true
  pub entries : s.entries.has_room ≡ true
  pub waking : deque_len s.waking + (length s.entries.table + 1) ≤ deque_capacity s.waking
  pub wakers : vec_len s.wakers + 1 ≤ vec_capacity s.wakers
  pub ticks_and_runs : ticks_and_runs.HasRoom s.ticks_and_runs
  pub readers : s.ticks_and_runs.runs.lock.readers + 1 < 2 ^ 64
  pub trace : vec_len s.trace + 5 ≤ vec_capacity s.trace

-- the trace may have one more
abbrev pub HasRoomToEnd : Store → Type 0
HasRoomToEnd s = vec_len s.trace + 1 ≤ vec_capacity s.trace

-- the stack has room for what a thing to do may lead to
abbrev pub HasSpace : Vec Op Global → Type 0
HasSpace todo = vec_len todo + 8 ≤ vec_capacity todo

-- the thing was done: the store is the world after it, and the stack has on top what is to do because of it
pub record Does (done : Done) (new : Store) (todo : List Op) (new_todo : List Op) : Type 0 where
  pub world : world_of new ≡ done.world
  pub next : new_todo ≡ todo ++ reverse done.next
  pub room : HasRoomToEnd new

abbrev pub state_of : Store → List (Vec Op Global) → Machine
state_of s ps = record { world = world_of s; parties = map (λ v. v.items) ps }
