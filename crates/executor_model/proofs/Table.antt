-- Futures enter the table within its limit, and are dropped once: table_and_queue_agree, the_table_is_kept,
-- futures_are_in_their_places, no_append_is_refused_full, the_limit_is_exact, drops_come_once, early_drops_have_causes,
-- closing_drops_each_future_once, the_closing_drop_keeps_the_order and the_closing_drop_wakes_in_order.
pub mod Leaving
pub mod LeavingViews
pub mod LeavingAll
pub mod Borrowing
pub mod Tidying
pub mod RunsTidying
pub mod SleepersTidying
pub mod TidyingGroups
pub mod LeavingExecutions
pub mod Entering
pub mod Spawning
pub mod Pairs
pub mod Bounds
pub mod Spots
pub mod Spotting
pub mod Ascending
pub mod Closing
pub mod ClosingWakes
pub mod LeakCounts
pub mod LastWakers
pub mod Leaking
pub mod LeakWithin
pub mod LeakStays
pub mod LeakWakes
pub mod LastTold
pub mod InHands
