pub mod Ends
pub mod Paths
