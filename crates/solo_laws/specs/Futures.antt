-- How many futures there are after a list of calls.
use Rattle.std.specs.Prelude.{◌≡◌, ℕ, ◌+◌, ◌-◌, ◌^◌, ◌≤◌, ◌<◌, min, List, [], ◌∷◌, length}
use Rattle.task_moves.specs.declared.local_task.answers.Back.{Back}
use Rattle.task_moves.specs.declared.local_task.answers.Back.TheVariants.{Ready, Pending}
use Rattle.solo.specs.declared.owed.Spawned.{Spawned}
use Rattle.solo.specs.declared.owed.SpawnError.{SpawnError}
use Rattle.solo.specs.declared.owed.SpawnError.TheVariants.{Full, NoMemory}
use Rattle.solo.specs.declared.solo.Solo.{Solo}
use Rattle.solo.specs.Solo as solo
use Rattle.solo.specs.Table.{Same}
use Rattle.solo_laws.specs.Calls.{Call, Spawn, Settle, Finish, Drain}

module _ {F T : Type 0} where
  -- the poll that came back gave the output
  abbrev pub ended_by_settle : Back F T → ℕ
  ended_by_settle (Ready output) = 1
  ended_by_settle (Pending future) = 0

module _ {F T X : Type 0} where
  -- those that aren't dropped, and those that a close has taken out
  abbrev pub futures : Solo F T X → ℕ
  futures s = length s.table.entries + length s.going.entries

  -- a future is accepted
  abbrev pub accepted_by : Call F T X → ℕ
  accepted_by (Spawn mark future) = 1
  accepted_by _ = 0

  -- a future may be ended: it gave its output, its drop is finished, or it is drained
  abbrev pub ended_by : Call F T X → ℕ
  ended_by (Settle lent back) = ended_by_settle back
  ended_by (Finish lent) = 1
  ended_by Drain = 1
  ended_by _ = 0

  abbrev pub sum_of : (Call F T X → ℕ) → List (Call F T X) → ℕ
  sum_of f [] = 0
  sum_of f (call ∷ calls) = f call + sum_of f calls

  -- of the futures that were accepted all are there but as many as were ended, and no others
  pub record NoneIsLost (calls : List (Call F T X)) (s : Solo F T X) : Type 0 where
    pub kept : sum_of accepted_by calls ≤ futures s + sum_of ended_by calls
    pub none_more : futures s ≤ sum_of accepted_by calls

  -- the next that is accepted has as its number how many were accepted before
  abbrev pub IsNumbered : List (Call F T X) → Spawned X → Type 0
  IsNumbered calls spawned = spawned.task.number ≡ min (sum_of accepted_by calls) (2 ^ 64 - 1)

  -- `Full` where as many as the limit are accepted and not dropped, and want of memory only where fewer are
  abbrev pub Reason : ℕ → SpawnError F → Solo F T X → Type 0
  Reason limit (Full back) s = limit ≤ length s.table.entries
  Reason limit (NoMemory back) s = length s.table.entries < limit

  -- a refused future comes back, and nothing changes but room
  pub record ComesBack (limit : ℕ) (future : F) (refused : SpawnError F) (old new : Solo F T X) : Type 0 where
    pub back : solo.refused refused ≡ future
    pub reason : Reason limit refused old
    pub same : Same old.table old.cells new.table new.cells
    pub others : new ≡ record old { table = new.table; cells = new.cells }
