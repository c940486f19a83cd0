-- A list of lone polls of a run takes each common future: common_futures_are_in_reach_of_runs.
pub mod Standing
pub mod LineSteps
pub mod LineWalks
pub mod Turning
