-- A poll keeps the waker that it was given: polls_keep_their_wakers.
pub mod Names
pub mod NamesActs
pub mod NamesGroups
pub mod NamesWays
pub mod GivenWakers
