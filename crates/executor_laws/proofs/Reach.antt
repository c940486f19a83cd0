-- Lone calls that look for a future reach each common one: common_futures_are_in_reach and
-- arrival_order_needs_fewer_ticks.
pub mod Reached
pub mod LoneMoves
pub mod LoneSteps
pub mod LoneTicks
pub mod LoneBegins
pub mod Marked
pub mod Spots
pub mod Searching
pub mod Reaching
pub mod Counting
pub mod InReach
pub mod ByTurn
