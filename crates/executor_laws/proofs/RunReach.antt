-- Polls of a run reach what it keeps and what is common, and its drop leaves that common: runs_reach_futures,
-- kept_futures_are_in_reach and dropped_runs_leave_common_futures.
pub mod RunFinds
pub mod RunWalks
pub mod RunArrives
pub mod RunReaching
pub mod RunLeaves
pub mod RunDrops
pub mod RunSteps
pub mod RunKeeps
pub mod TakenUp
pub mod KeptLines
pub mod KeptWalks
