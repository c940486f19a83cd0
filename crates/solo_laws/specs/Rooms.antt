-- What memory is taken for, and by which calls.
use Rattle.std.specs.Prelude.{◌≡◌, ℕ, ◌+◌, ◌≤◌, max, Bool, true, false, length}
use Rattle.std.specs.List.{All}
use Rattle.executor_parts.specs.Sleepers.{Sleepers}
use Rattle.solo.specs.declared.own_queues.Own.{Own}
use Rattle.solo.specs.declared.solo.Solo.{Solo}
use Rattle.solo.specs.Table.{TableValue}
use Rattle.solo_laws.specs.Calls.{Call, Spawn, SpawnRefused, MakeTick, MakeRun}
use Rattle.solo_laws.specs.Futures.{futures}
use Rattle.solo_laws.specs.Queueing.{one_if}

-- the entries of a table, and one more where that may enter without memory
abbrev pub places_in : {F : Type 0} → TableValue F → ℕ
places_in t = length t.entries + one_if t.has_room

-- the numbers of those who sleep, and those that were given back
abbrev pub numbers_of : {W : Type 0} → Sleepers W → ℕ
numbers_of s = s.count + length s.free

-- the own queue of a run has 512 places
abbrev pub HasPlaces : Own → Type 0
HasPlaces own = length own.queue ≤ 512

module _ {F T X : Type 0} where
  -- a spawn, also one that is refused, and the making of a tick or a run
  abbrev pub may_take_memory : Call F T X → Bool
  may_take_memory (Spawn mark future) = true
  may_take_memory (SpawnRefused mark future) = true
  may_take_memory MakeTick = true
  may_take_memory MakeRun = true
  may_take_memory _ = false

  -- there is no more than there was of all that memory is taken for
  pub record MakesNoRoom (old new : Solo F T X) : Type 0 where
    -- futures and places for them, also for those that a close has taken out
    pub entries : futures new ≤ futures old
    pub places : places_in new.table + places_in new.going ≤ places_in old.table + places_in old.going
    -- the tasks' cells, and for how many there is memory
    pub cells : length new.cells.slab.slots ≤ length old.cells.slab.slots
    pub capacity : new.cells.slab.capacity ≡ old.cells.slab.capacity
    -- how many may sleep, and the numbers given to those who do, of which there are no more than there was room for
    pub sleepers : new.sleepers.rooms ≤ old.sleepers.rooms
    pub numbers : numbers_of new.sleepers ≤ max (numbers_of old.sleepers) old.sleepers.rooms
    -- the own queues of runs
    pub own_queues : length new.runs.queues ≤ length old.runs.queues

  -- nothing holds more than it has places for, which were taken when it was made
  pub record HasPlacesForAll (limit : ℕ) (s : Solo F T X) : Type 0 where
    pub futures : length s.table.entries ≤ limit
    pub going : length s.going.entries ≤ limit
    pub urgent : length s.lines.urgent.items ≤ limit
    pub plain : length s.lines.plain.items ≤ limit
    pub leaving : length s.leaving.items ≤ limit
    pub sleepers : s.sleepers.count ≤ s.sleepers.rooms
    pub wakers : length s.sleepers.wakers ≤ s.sleepers.rooms
    pub own_queues : All HasPlaces s.runs.queues
