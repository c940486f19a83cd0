pub mod All
pub mod First
pub mod Parts
pub mod Receiving
pub mod Rounds
pub mod Trying
