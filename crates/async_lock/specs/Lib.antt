pub mod Gatherings
pub mod Giving
pub mod Kinds
pub mod Leading
pub mod Newest
pub mod Rooms
pub mod Rounds
