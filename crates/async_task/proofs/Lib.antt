pub mod Idle
pub mod Ending
pub mod Looking
