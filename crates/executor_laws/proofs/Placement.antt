-- A due future stands with its keeper, or in the executor's queue where it has none:
-- due_futures_stand_with_their_keepers.
pub mod Opens
pub mod Opened
pub mod Endings
pub mod Bonds
pub mod Safe
pub mod RunsFewer
pub mod SafeRuns
pub mod SafeViews
pub mod SafeActs
pub mod Answering
pub mod Frames
pub mod Evens
pub mod Leavings
pub mod Ran
pub mod Running
pub mod RunningCalls
pub mod RunningSteps
pub mod Bound
pub mod BoundSteps
pub mod BoundWays
pub mod Placing
pub mod OfTicks
pub mod RunAnswers
pub mod OwnReady
pub mod OwnAlways
pub mod EndedRuns
