-- The table and the queue: which futures have an entry, and which have a Runnable.
use Rattle.std.specs.Prelude.{◌≡◌, ◌⊎◌, ℕ, ◌+◌, ◌≤◌, true, false, Some}
use Rattle.queue_steps.specs.ClosableQueue.{HasRoom}
use Rattle.executor_model.specs.declared.op.Op.TheVariants as op
use Rattle.executor_model.specs.declared.op.QueueOp.TheVariants as queue_op
use Rattle.executor_model.specs.Trace.{has, is_accepted, is_dropped, is_drop_begun}
use Rattle.executor_model.specs.Weights.{weigh_all}
use Rattle.executor_model.specs.EarlyDrop.{before_drop}
use Rattle.executor_model.specs.Sound.{times, times_in}
use Rattle.executor_model.specs.Rows.{drops_of, leaves_of, ousting_of}
use Rattle.executor_model.specs.Steps.{Machine, stack, top}
use Rattle.executor_model.specs.World.{mark_of, queue_of, queued_in}

-- the drop of the executor hasn't yet taken the table out
abbrev pub HasTable : Machine → Type 0
HasTable s = (has is_drop_begun s.world.trace ≡ false) ⊎ (1 ≤ weigh_all ousting_of s.parties)

-- the future was accepted, and is undropped or was dropped in a call that has still to take its entry out
pub record Remains (f : ℕ) (s : Machine) : Type 0 where
  pub accepted : has (is_accepted f) s.world.trace ≡ true
  pub remains : (has (is_dropped f) s.world.trace ≡ false) ⊎ (1 ≤ weigh_all (leaves_of f) s.parties)

-- until the drop of the executor takes the table out, those futures have an entry, and one each
pub record TableAgrees (s : Machine) (f : ℕ) : Type 0 where
  pub once : times f s.world.table ≤ 1
  pub entered : HasTable s → Remains f s → times f s.world.table ≡ 1
  pub only : HasTable s → 1 ≤ times f s.world.table → Remains f s

-- a Runnable in the executor's queues is one of a future that was accepted and isn't dropped but by the executor's drop,
-- and its only one there
pub record QueueAgrees (s : Machine) (f : ℕ) : Type 0 where
  pub once : times f (queued_in s.world) ≤ 1
  pub accepted : 1 ≤ times f (queued_in s.world) → has (is_accepted f) s.world.trace ≡ true
  pub undropped : 1 ≤ times f (queued_in s.world) → has (is_dropped f) s.world.trace ≡ true →
      has is_drop_begun s.world.trace ≡ true
  pub by_closing : 1 ≤ times f (queued_in s.world) → has (is_dropped f) s.world.trace ≡ true →
      has is_drop_begun (before_drop f s.world.trace) ≡ true
  -- once that has begun, no other call drops a future
  pub alone : has is_drop_begun s.world.trace ≡ true → weigh_all (drops_of f) s.parties ≡ 0

-- and so is one in a run's own queue, and the only one in all queues
pub record OwnAgrees (s : Machine) (f : ℕ) : Type 0 where
  pub once : times f (queued_in s.world) + times_in f s.world.own ≤ 1
  pub accepted : 1 ≤ times_in f s.world.own → has (is_accepted f) s.world.trace ≡ true
  pub undropped : 1 ≤ times_in f s.world.own → has (is_dropped f) s.world.trace ≡ true →
      has is_drop_begun s.world.trace ≡ true
  pub by_closing : 1 ≤ times_in f s.world.own → has (is_dropped f) s.world.trace ≡ true →
      has is_drop_begun (before_drop f s.world.trace) ≡ true

-- a party that is about to append a Runnable finds a place for it
abbrev pub FindsPlace : Machine → ℕ → Type 0
FindsPlace s f = (p : ℕ) → top (stack s p) ≡ Some (op.Queue (queue_op.Append f)) → HasRoom (queue_of s.world (mark_of s.world f))
