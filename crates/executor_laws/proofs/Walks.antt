-- A poll of a run finds a due future in whichever queue it stands, and can be made: runs_find_due_futures and
-- keepers_can_be_polled.
pub mod Enrolled
pub mod Searches
pub mod Stages
pub mod Finding
pub mod Arriving
pub mod Polled
