-- What a future over handles has to await, and what a poll of it does.
use Rattle.std.specs.Prelude.{◌≡◌, ◌<◌, ◌≤◌, ◌+◌, IsTrue, is_some, Option, Some, None, Result, Ok, Err}
use Rattle.std.specs.Prelude.{List, [], ◌∷◌, ◌++◌, drop, length, Vec}
use Rattle.std.specs.Global.{Global}
use Rattle.async_executor.specs.Handing.{Handles}
use Rattle.async_task.specs.Handles.{Handle}
use Rattle.async_task.specs.declared.cell.Identity.{Identity}
use Rattle.async_task.specs.declared.poll.Poll.{Poll}
use Rattle.async_task.specs.declared.poll.Poll.TheVariants.{Ready, Pending}
use Rattle.async_task.specs.declared.task.TaskError.{TaskError}
use Rattle.async_task.specs.declared.task.TaskError.TheVariants.{TaskClosed, NoMemory}

-- the tasks that are to be awaited, in order: the one whose handle was polled last, and those of the handles that are left
abbrev pub to_come : {M : Type 0} → Option (Handle M) → Handles → List Identity
to_come None handles = handles.tasks
to_come (Some task) handles = task.identity ∷ handles.tasks

-- a poll that is pending has polled a handle last, which it awaits
abbrev pub Awaits : {M X : Type 0} → Option (Handle M) → Poll X → Type 0
Awaits awaited Pending = IsTrue (is_some awaited)
Awaits awaited (Ready _) = Unit {0}

module _ {T : Type 0} where
  -- the first task that is to be awaited gave its output, or has none to give, and is to be awaited no more; or it stays the first
  abbrev pub HasStepped : List Identity → List Identity → Poll (Result T TaskError) → Type 0
  HasStepped old new Pending = new ≡ old
  HasStepped old new (Ready (Ok _)) = new ≡ drop 1 old
  HasStepped old new (Ready (Err TaskClosed)) = new ≡ drop 1 old
  HasStepped old new (Ready (Err NoMemory)) = new ≡ old

  -- more outputs came, after those that were there: one for each of the first tasks, and the tasks after these are to be awaited
  abbrev pub HaveCome : List T → List Identity → List T → List Identity → Type 0
  HaveCome old tasks new left =
      (more : List T) × (new ≡ old ++ more) × (length more ≤ length tasks) × (left ≡ drop (length more) tasks)

  -- so, and the task after the first ones has no output to give: those after it are to be awaited
  abbrev pub HaveComeUntil : List T → List Identity → List T → List Identity → Type 0
  HaveComeUntil old tasks new left =
      (more : List T) × (new ≡ old ++ more) × (length more < length tasks) × (left ≡ drop (length more + 1) tasks)

  -- after the outputs that were there came one for each task
  abbrev pub AllHaveCome : List T → List Identity → List T → Type 0
  AllHaveCome old tasks new = (more : List T) × (new ≡ old ++ more) × (length more ≡ length tasks)

  -- what a poll answers: the outputs, of which one more came for each task, and nothing is left; or some came, and it is pending,
  -- or met a task that has none to give, or had no memory to go on
  abbrev pub HasJoined : List T → List Identity → List T → List Identity → Poll (Result (Vec T Global) TaskError) → Type 0
  HasJoined old tasks new left Pending = HaveCome old tasks new left
  HasJoined old tasks new left (Ready (Ok outputs)) = AllHaveCome old tasks outputs.items × (new ≡ []) × (left ≡ [])
  HasJoined old tasks new left (Ready (Err TaskClosed)) = HaveComeUntil old tasks new left
  HasJoined old tasks new left (Ready (Err NoMemory)) = HaveCome old tasks new left
