-- That calls of an executor of one owner go as `next` says: the laws of `src/turns.rt`.
pub mod Telling
pub mod Paying
pub mod Waking
pub mod Taking
pub mod Ticking
pub mod Ending
pub mod Closing
pub mod Running
pub mod Depth
pub mod Stealing
pub mod Searching
