pub mod Accepting
pub mod Spawning
pub mod Starts
pub mod Runs
pub mod Kinds
pub mod Wakers
