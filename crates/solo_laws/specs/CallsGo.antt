-- That wakes, calls of a handle, spawns and takes go as `next` says: what each leaves and hands out is what its steps do, one after
-- the other, each followed by what `next` says for what it saw.
use Rattle.std.specs.Prelude.{◌≡◌, ℕ, Option, Some, None, Ok, Err}
use Rattle.executor_parts.specs.declared.mark.Mark.{Mark}
use Rattle.call_steps.specs.declared.saw.Saw.{Saw}
use Rattle.call_steps.specs.declared.saw.Saw.TheVariants as saw
use Rattle.call_steps.specs.Todo.{following}
use Rattle.call_steps.specs.declared.asked.Asked.TheVariants as asks
use Rattle.call_steps.specs.declared.reply.Reply.{Reply}
use Rattle.call_steps.specs.declared.reply.Reply.TheVariants as reply
use Rattle.call_steps.specs.Begins.{begins}
use Rattle.solo.specs.declared.names.Task.{Task}
use Rattle.solo.specs.declared.owed.SpawnError.{SpawnError}
use Rattle.solo.specs.declared.owed.SpawnError.TheVariants.{Full, NoMemory}
use Rattle.solo.specs.declared.owed.Spawned.{Spawned}
use Rattle.solo.specs.declared.solo.Solo.{Solo}
use Rattle.solo.specs.Cells.{choose}
use Rattle.solo.specs.Solo as solo
use Rattle.solo.specs.Solo.{sought, popped}
use Rattle.solo.specs.Turns as turns
use Rattle.solo_laws.specs.Going.{Going, quiet, calm}
use Rattle.solo_laws.specs.Goes.{goes}
use Rattle.solo_laws.specs.HandedOut.{deep, telling, owing, ends, runs}

abbrev pub refusal : {F : Type 0} → SpawnError F → Saw Task ℕ
refusal (Full future) = saw.Full
refusal (NoMemory future) = saw.NoMemory

abbrev pub refused_as : {F : Type 0} → SpawnError F → Reply
refused_as (Full future) = reply.Full
refused_as (NoMemory future) = reply.NoMemory

module _ {F T X : Type 0} where
  abbrev pub WakesGo : Solo F T X → Type 0
  WakesGo s = (task : Task) →
      goes deep (begins (asks.WakeByRef task)) (calm s) ≡ ends (solo.woken task s) reply.Done (telling (solo.wake_answer task s))

  abbrev pub UsesGo : Solo F T X → Type 0
  UsesGo s = (task : Task) →
      goes deep (begins (asks.Wake task)) (calm s)
      ≡ ends (solo.woken_and_released task s) reply.Done (telling (solo.wake_and_release_answer task s))

  abbrev pub ReleasesGo : Solo F T X → Type 0
  ReleasesGo s = (task : Task) →
      goes deep (begins (asks.DropWaker task)) (calm s)
      ≡ ends (solo.released task s) reply.Done (telling (solo.release_answer task s))

  abbrev pub CancelsGo : Solo F T X → Type 0
  CancelsGo s = (task : Task) →
      goes deep (begins (asks.Cancel task)) (calm s) ≡ ends (solo.cancelled task s) reply.Done (owing (solo.cancel_answer task s))

  abbrev pub DetachesGo : Solo F T X → Type 0
  DetachesGo s = (task : Task) →
      goes deep (begins (asks.Detach task)) (calm s) ≡ ends (solo.detached task s) reply.Done (owing (solo.detach_answer task s))

  -- once the future is in the table its task is queued, and a sleeper told; a refusal is the answer
  abbrev pub SpawnsGo : Solo F T X → Type 0
  SpawnsGo old = (mark : Mark) (future : F) (spawned : Spawned X) (new : Solo F T X) → solo.Spawns mark future old (Ok spawned) new
      → (s : Solo F T X) × solo.Accepting mark future old (Ok spawned.task) s
      × (goes deep (following (saw.Entered spawned.task) (begins (asks.Spawn mark))) (calm s)
      ≡ ends new reply.Made (telling spawned.told))

  -- nothing is left changed but room
  abbrev pub RefusalsGo : Solo F T X → Type 0
  RefusalsGo old = (mark : Mark) (future : F) (refused : SpawnError F) (new : Solo F T X)
      → solo.Spawns mark future old (Err refused) new
      → (goes deep (following (refusal refused) (begins (asks.Spawn mark))) (calm new)
      ≡ ends
      (record old { table = record old.table { has_room = new.table.has_room }; cells = new.cells })
      (refused_as refused)
      quiet)
      × (new.cells.slab.slots ≡ old.cells.slab.slots) × (solo.refused refused ≡ future)

  abbrev pub LooksGo : Solo F T X → Type 0
  LooksGo s = goes deep (begins asks.IsEmpty) (calm s) ≡ ends s (choose (solo.is_empty s) reply.Yes reply.No) quiet

  abbrev pub tried : Option Task → Solo F T X → Going F T X
  tried None s = ends s reply.No quiet
  tried (Some task) s =
      runs task reply.Yes (record (calm (turns.told s)) { out = record quiet { sleeper = turns.told_waker s } })

  -- this is what `solo` says of a take
  abbrev pub TriesAs : Solo F T X → Going F T X → Type 0
  TriesAs s g = (g.solo ≡ solo.taken s) × (g.out.found ≡ (solo.take_answer s).found) × (g.out.sleeper ≡ (solo.take_answer s).sleeper)

  abbrev pub TakesGo : Solo F T X → Type 0
  TakesGo s = (goes deep (begins asks.TryTick) (calm s) ≡ tried (sought s) (popped s)) × TriesAs s (tried (sought s) (popped s))
