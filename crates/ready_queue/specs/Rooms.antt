use Rattle.std.specs.Prelude.{◌≡◌, ◌≤◌, true, false}
use Rattle.ready_queue.specs.declared.rooms.Rooms.{Rooms}
use Rattle.ready_queue.specs.declared.rooms.NoRoom.{NoRoom}
use Rattle.ready_queue.specs.declared.rooms.NoRoom.TheVariants.{Full, Closed}

-- Whether that is why there was no room.
abbrev pub IsRefusedAt : Rooms → NoRoom → Type 0
IsRefusedAt rooms Closed = rooms.is_closed ≡ true
IsRefusedAt rooms Full = (rooms.is_closed ≡ false) × (rooms.limit ≤ rooms.taken)
