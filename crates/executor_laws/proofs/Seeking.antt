-- A poll of a tick or of a run is answered that nothing is ready only where it looked: nothing_is_ready_where_none_was_found; and a
-- poll of a handle that there is no output yet only where something can still come: handles_wait_for_what_can_come.
pub mod SeekStacks
pub mod SeekTicks
pub mod SeekRuns
pub mod SeekHandles
pub mod SettledAtRest
