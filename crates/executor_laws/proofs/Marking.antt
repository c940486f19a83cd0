-- The turns of searches and the marks of futures: one_turn_of_eight_is_plain, futures_are_marked_as_spawned and
-- futures_are_queued_by_their_marks.
pub mod MarkSteps
pub mod MarkActs
pub mod MarkTurns
pub mod MarkQueues
pub mod MarkSpawns
