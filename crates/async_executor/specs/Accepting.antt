-- What a spawn does with the executor's table, which it is lent under its lock.
use Rattle.std.specs.Prelude.{◌≡◌, ◌<◌, ◌≤◌, ◌++◌, [], ◌∷◌, length, Bool, true, false, Option, Some, None}
use Rattle.async_executor.specs.declared.errors.SpawnError.{SpawnError}
use Rattle.async_executor.specs.declared.errors.SpawnError.TheVariants.{Full, NoMemory}
use Rattle.async_task.specs.Handles.{Handle, Resting}
use Rattle.async_task.specs.declared.cell.Identity.{Identity}
use Rattle.executor_parts.specs.Places.{Entry, Places}

-- what the table keeps beside a future: a waker of its task, and none where the executor is static
abbrev pub WakerFits : Bool → Option Resting → Identity → Type 0
WakerFits true waker identity = waker ≡ None
WakerFits false None identity = ⊥
WakerFits false (Some waker) identity = waker.identity ≡ identity

module _ {F M : Type 0} where
  -- one entry more, which comes last: the future is in it, and a waker of its task, where the executor isn't static
  pub record Accepts (is_static : Bool) (old new : Places F (Option Resting)) (future : F) (task : Handle M) : Type 0 where
    pub entry : Entry F (Option Resting)
    pub entered : new.entries ≡ old.entries ++ entry ∷ []
    pub inside : entry.future ≡ Some future
    pub waker : WakerFits is_static entry.waker task.identity

-- full only where there are as many entries as the limit, and out of memory only where there are fewer
abbrev pub IsRefusedAt : {F : Type 0} → Places F (Option Resting) → SpawnError F → Type 0
IsRefusedAt table (Full f) = table.limit ≤ length table.entries
IsRefusedAt table (NoMemory f) = length table.entries < table.limit
