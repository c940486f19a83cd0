mod ByHandle
mod Promised
pub mod Backs
pub mod Gathering
pub mod Sums
pub mod Parsing
pub mod Printing
pub mod Unambiguous
