-- Sleepers agree and are told: sleepers_agree and sleepers_are_told.
pub mod SleepersWakingUp
pub mod TickLists
pub mod SleepersAway
pub mod SleepersFollowing
pub mod SleepersFollowingExecutions
pub mod SleepersTelling
pub mod SleepersTellingExecutions
