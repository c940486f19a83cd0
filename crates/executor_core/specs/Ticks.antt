-- What a contract sees of the places of ticks, and of the sleepers among whom they fall asleep.
use Rattle.std.specs.Prelude.{ℕ, ◌-◌, ◌<◌, Bool, true, false, List, Option, None, Some, slice_index_or}
use Rattle.executor_parts.specs.Sleepers.{Sleepers}
use Rattle.executor_parts.specs.declared.sleepers.Room.{Room}
use Rattle.executor_model.specs.declared.op.Sleeping.{Sleeping}
use Rattle.executor_model.specs.World.{Ticker, Awake, Asleep, Left}
use Rattle.executor_core.specs.declared.ticks.ticker.Ticker.{Ticker as TickerOfCode}
use Rattle.executor_core.specs.declared.ticks.ticker.Ticker.TheVariants as ticker

-- the sleepers and the flag beside them
pub record Flagged : Type 0 where
  pub sleepers : Sleepers Sleeping
  pub notified : Bool
  -- room for one more was made ahead
  pub has_room : Bool

-- the places of the ticks by number
pub record Ticked : Type 0 where
  pub places : List Ticker
  -- there may be one more without memory
  pub has_room : Bool

-- the model's place: the number says where one sleeps
abbrev pub as_ticker : TickerOfCode → Ticker
as_ticker ticker.Awake = Awake
as_ticker (ticker.Asleep sleeper) = Asleep sleeper.number
as_ticker ticker.Left = Left

-- where tick t is; one that isn't there is as one that left
abbrev pub place_in : Ticked → ℕ → Ticker
place_in s t = slice_index_or s.places t Left

-- the room there is, but what was made ahead
abbrev pub rooms_beside : Option Room → ℕ → ℕ
rooms_beside None rooms = rooms
rooms_beside (Some room) rooms = rooms - 1

abbrev pub ahead : Option Room → ℕ
ahead None = 0
ahead (Some room) = 1

-- where room was made ahead, nobody sleeps in it
abbrev pub IsSpare : Option Room → Sleepers Sleeping → Type 0
IsSpare None s = Unit {0}
IsSpare (Some room) s = s.count < s.rooms

-- these sleepers and this flag, with no room ahead
abbrev pub flagged : Sleepers Sleeping → Bool → Flagged
flagged s b = record { sleepers = s; notified = b; has_room = false }

abbrev pub is_asleep : Ticker → Bool
is_asleep Awake = false
is_asleep (Asleep n) = true
is_asleep Left = false
