pub mod Ends
pub mod Faults
pub mod Joining
pub mod Queues
pub mod Waits
