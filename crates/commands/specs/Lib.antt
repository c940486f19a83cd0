pub mod Asked
pub mod Fault
pub mod Jobs
pub mod Writes
