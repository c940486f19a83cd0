pub mod Kinds
pub mod Putting
pub mod Running
