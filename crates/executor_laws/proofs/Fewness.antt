-- A lone poll of a run polls 200 futures at most, and any poll takes 200 up at most: runs_poll_few_futures and
-- runs_take_few_futures.
pub mod FewSides
pub mod FewSteps
pub mod FewWalks
pub mod Untaken
pub mod AnySteps
pub mod AnyStacks
pub mod AnyPoll
pub mod TakesTold
