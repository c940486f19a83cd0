-- Calls end, and so do calls that are made alone: calls_end and lone_calls_end.
pub mod Spending
pub mod SpendingActs
pub mod SpendingTicks
pub mod SpendingGroups
pub mod SpendingRuns
pub mod PayingTicks
pub mod Beside
pub mod TakingFew
pub mod Reached
pub mod Ends
pub mod Holding
pub mod GoingOn
pub mod LoneEnds
