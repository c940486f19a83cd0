pub mod Awaits
pub mod Errors
pub mod Seats
pub mod Turns
