-- A task with one owner is the abstract task for every list of its calls: what stands in it is the abstract task, but for what
-- the owner was told, and what the owner was told, one call after the other, is what the abstract task's schedule function was.
use Rattle.std.specs.Prelude.{◌≡◌, Bool, true, Option, Some, None, List, [], ◌∷◌, ◌++◌}
use Rattle.task_moves.specs.declared.schedule_info.ScheduleInfo.{ScheduleInfo}
use Rattle.task_moves.specs.declared.local_task.answers.Back.{Back}
use Rattle.task_moves.specs.AbstractTask as abstract
use Rattle.task_moves.specs.AbstractTask.{AbstractTask}
use Rattle.task_moves.specs.LocalTask as local
use Rattle.task_moves.specs.LocalTask.{told, info_of}

-- the calls that change a task; F is the type of the future, T of its output, A of its awaiter
pub data Call (F T A : Type 0) : Type 0 where
  Start : Call F T A
  Settle : Back F T → Call F T A
  Retract : Call F T A
  Finish : Call F T A
  Wake : Call F T A
  Hold : Call F T A
  Release : Call F T A
  Cancel : Call F T A
  Detach : Call F T A
  Poll : A → Call F T A

-- what the owner has: the task, and what it was told so far
pub record Owner (T A : Type 0) : Type 0 where
  pub task : AbstractTask T A
  pub infos : List Bool

-- what it is told by one call
abbrev pub heard : Option ScheduleInfo → List Bool
heard (Some info) = info.woken_while_running ∷ []
heard None = []

module _ {F T A : Type 0} where
  -- the abstract function of each call
  abbrev pub after : Call F T A → AbstractTask T A → AbstractTask T A
  after Start t = abstract.begin_run t
  after (Settle back) t = (local.settle back t).task
  after Retract t = record t { closed = true }
  after Finish t = (local.finish t).task
  after Wake t = abstract.wake t
  after Hold t = abstract.copy t
  after Release t = abstract.release t
  after Cancel t = (abstract.cancel t).task
  after Detach t = (abstract.detach t).task
  after (Poll waker) t = (abstract.poll waker t).task

  abbrev pub after_all : List (Call F T A) → AbstractTask T A → AbstractTask T A
  after_all [] t = t
  after_all (call ∷ calls) t = after_all calls (after call t)

  -- how the contract of the call leaves the owner
  abbrev pub owner_after : Call F T A → Owner T A → Owner T A
  owner_after call o =
      record {
        task = told (after call o.task);
        infos = o.infos ++ heard (info_of o.task (after call o.task));
      }

  abbrev pub owner_after_all : List (Call F T A) → Owner T A → Owner T A
  owner_after_all [] o = o
  owner_after_all (call ∷ calls) o = owner_after_all calls (owner_after call o)

-- after any calls of a new task
pub record IsAbstractTask (F T A : Type 0) : Type 0 where
  pub task : (calls : List (Call F T A)) →
      (owner_after_all calls (record { task = abstract.spawned 0; infos = [] })).task ≡ told (after_all calls (abstract.spawned 0))
  pub infos : (calls : List (Call F T A)) →
      (owner_after_all calls (record { task = abstract.spawned 0; infos = [] })).infos ≡ (after_all calls (abstract.spawned 0)).infos
