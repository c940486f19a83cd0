pub mod Marks
pub mod Order
pub mod Places
pub mod Sleepers
pub mod Sleeping
