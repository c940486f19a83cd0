-- What a spawn does with the futures and with the tasks.
use Rattle.std.specs.Prelude.{◌≡◌, ◌<◌, ◌≤◌, ◌⊎◌, ◌++◌, [], ◌∷◌, length, Option, Some, Result, Ok}
use Rattle.executor_parts.specs.declared.mark.Mark.{Mark}
use Rattle.executor_parts.specs.declared.places.EntryPlace.{EntryPlace}
use Rattle.executor_parts.specs.Places.{Entry, Places}
use Rattle.local_executor.specs.declared.output.Output.{Output}
use Rattle.solo.specs.declared.owed.Spawned.{Spawned}
use Rattle.solo.specs.declared.owed.SpawnError.{SpawnError}
use Rattle.solo.specs.declared.owed.SpawnError.TheVariants.{Full, NoMemory}
use Rattle.solo.specs.declared.solo.Solo.{Solo}
use Rattle.solo.specs.Solo.{Spawns}
use Rattle.std.specs.Rc.{rc_value}

module _ {F T W : Type 0} where
  -- one entry more, which comes last and has the future, and the place of its output with whoever takes that; the executor of one
  -- owner has spawned its place
  pub record Accepts
      (mark : Mark) (future : F) (old new : Places F (Output T)) (spawned : Spawned W) (output : Output T)
      (before after : Solo EntryPlace (Unit {0}) W)
      : Type 0 where
    pub entry : Entry F (Output T)
    pub entered : new.entries ≡ old.entries ++ entry ∷ []
    pub inside : entry.future ≡ Some future
    pub shared : rc_value entry.waker.place ≡ rc_value output.place
    pub spawns : Spawns mark (record { key = entry.key; stamp = entry.stamp }) before (Ok spawned) after

module _ {F O W : Type 0} where
  -- full only where there are as many entries as the limit
  abbrev pub IsRefusedAt : Places F O → Solo EntryPlace (Unit {0}) W → SpawnError F → Type 0
  IsRefusedAt table tasks (Full f) = (table.limit ≤ length table.entries) ⊎ (tasks.table.limit ≤ length tasks.table.entries)
  IsRefusedAt table tasks (NoMemory f) = length table.entries < table.limit
