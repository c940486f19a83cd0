-- The futures that aren't dropped, in the order in which they were accepted, each with a waker, where entries count one.
use Rattle.std.specs.Prelude.{◌≡◌, ℕ, ◌<◌, ◌≤◌, Bool, true, List, [], ◌∷◌, ◌++◌, length, Option, Some, None}
use Rattle.slab.specs.Slab.{get, Updates, HasRoomFor}
use Rattle.executor_parts.specs.Places.{Entry, entry_at, entry_in, left_by, parts_of}
use Rattle.executor_parts.specs.declared.mark.Mark.{Mark}
use Rattle.executor_parts.specs.declared.places.EntryPlace.{EntryPlace}
use Rattle.solo.specs.declared.names.Task.{Task}
use Rattle.solo.specs.declared.owed.SpawnError.{SpawnError}
use Rattle.solo.specs.declared.owed.SpawnError.TheVariants.{Full, NoMemory}
use Rattle.solo.specs.declared.cells.Cells.{Cells}
use Rattle.solo.specs.Cells as cells

pub record TableValue (F : Type 0) : Type 0 where
  pub entries : List (Entry F (Option Task))
  -- at most so many
  pub limit : ℕ
  -- one more may enter without memory
  pub has_room : Bool

-- the waker that an entry counts, where it counts one
abbrev pub counted_waker : Bool → Task → Option Task
counted_waker held task = cells.choose held (Some task) None

module _ {F : Type 0} where
  abbrev pub first_parts : List (Entry F (Option Task)) → Option (Option F × Option Task)
  first_parts [] = None
  first_parts (e ∷ es) = Some (e.future, e.waker)

  abbrev pub rest_of : List (Entry F (Option Task)) → List (Entry F (Option Task))
  rest_of [] = []
  rest_of (e ∷ es) = es

  -- an entry that goes leaves its room
  abbrev pub room_after : Option (Option F × Option Task) → Bool → Bool
  room_after None had = had
  room_after (Some parts) had = true

  -- without the entry at a place
  abbrev pub left_table : EntryPlace → TableValue F → TableValue F
  left_table place t =
      record t { entries = left_by place t.entries; has_room = room_after (parts_of (entry_in place t.entries)) t.has_room }

  -- without the first entry
  abbrev pub rest_table : TableValue F → TableValue F
  rest_table t = record t { entries = rest_of t.entries; has_room = room_after (first_parts t.entries) t.has_room }

  abbrev pub new_entry : EntryPlace → F → Option Task → Entry F (Option Task)
  new_entry place future waker = record { key = place.key; stamp = place.stamp; future = Some future; waker = waker }

module _ {F T X : Type 0} where
  -- below the limit, a future comes last in the table, and its task among the cells
  pub record Accepts (number : ℕ) (held : Bool) (mark : Mark) (future : F) (old : TableValue F) (cells_before : Cells T X) (task : Task)
      (new : TableValue F) (cells_after : Cells T X) : Type 0 where
    pub below : length old.entries < old.limit
    pub place : EntryPlace
    -- no entry has its key
    pub fresh : entry_at place.key old.entries ≡ None
    pub entered :
        new ≡ record old { entries = old.entries ++ new_entry place future (counted_waker held task) ∷ []; has_room = new.has_room }
    pub numbered : task.number ≡ number
    pub was_free : get cells_before.slab task.key ≡ None
    pub cell : Updates cells_before.slab cells_after.slab task.key (cells.entered number place held mark)

  -- nothing changes but room
  pub record Same (old : TableValue F) (cells_before : Cells T X) (new : TableValue F) (cells_after : Cells T X) : Type 0 where
    pub table : new ≡ record old { has_room = new.has_room }
    pub slots : cells_after.slab.slots ≡ cells_before.slab.slots
    pub key : cells_after.slab.vacant_key ≡ cells_before.slab.vacant_key

  -- the future comes back: `Full` exactly at the limit, and want of memory only where there was no room
  abbrev pub Refuses : F → TableValue F → Cells T X → TableValue F → Cells T X → SpawnError F → Type 0
  Refuses future old before new after (Full back) = (back ≡ future) × (old.limit ≤ length old.entries) × Same old before new after
  Refuses future old before new after (NoMemory back) =
      (back ≡ future) × (length old.entries < old.limit) × (old.has_room ≡ true → HasRoomFor before.slab 1 → ⊥) × Same old before new after
