-- What a future over answers has to await, and what a poll of it does.
use Rattle.std.specs.Prelude.{◌≡◌, ◌<◌, ◌+◌, Result, Ok, Err}
use Rattle.std.specs.Prelude.{List, [], ◌++◌, drop, length, Vec}
use Rattle.std.specs.Global.{Global}
use Rattle.async_task.specs.declared.poll.Poll.{Poll}
use Rattle.async_task.specs.declared.poll.Poll.TheVariants.{Ready, Pending}
use Rattle.async_task.specs.declared.task.TaskError.{TaskError}
use Rattle.async_task.specs.declared.task.TaskError.TheVariants.{TaskClosed, NoMemory}

module _ {A : Type 0} where
  -- the first that is awaited gave its output, or has none to give, and goes; or it stays the first, polled once more
  abbrev pub HasStepped : {Y : Type 0} → List A → List A → Poll Y → Type 0
  HasStepped old new (Ready _) = new ≡ drop 1 old
  HasStepped old new Pending = (length new ≡ length old) × (drop 1 new ≡ drop 1 old)

module _ {A X : Type 0} where
  -- more outputs came, after those that were there: one for each of the first answers. This many are left, and those after the
  -- first of these are as they were
  abbrev pub HaveCome : List X → List A → List X → List A → Type 0
  HaveCome old waiting new left =
      (more : List X) × (new ≡ old ++ more) × (length left + length more ≡ length waiting)
      × (drop 1 left ≡ drop (length more + 1) waiting)

  -- so, and the answer after the first ones has no output to give: those after it are left, as they were
  abbrev pub HaveComeUntil : List X → List A → List X → List A → Type 0
  HaveComeUntil old waiting new left =
      (more : List X) × (new ≡ old ++ more) × (length more < length waiting) × (left ≡ drop (length more + 1) waiting)

  -- after the outputs that were there came one for each answer
  abbrev pub AllHaveCome : List X → List A → List X → Type 0
  AllHaveCome old waiting new = (more : List X) × (new ≡ old ++ more) × (length more ≡ length waiting)

  -- what a poll answers: the outputs, of which one more came for each answer, and nothing is left; or some came, and it is pending,
  -- or met an answer that has none to give, or had no memory to go on
  abbrev pub HasJoined : List X → List A → List X → List A → Poll (Result (Vec X Global) TaskError) → Type 0
  HasJoined old waiting new left Pending = HaveCome old waiting new left
  HasJoined old waiting new left (Ready (Ok outputs)) = AllHaveCome old waiting outputs.items × (new ≡ []) × (left ≡ [])
  HasJoined old waiting new left (Ready (Err TaskClosed)) = HaveComeUntil old waiting new left
  HasJoined old waiting new left (Ready (Err NoMemory)) = HaveCome old waiting new left
