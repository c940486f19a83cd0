-- That each act of the machine is a call that the owner makes: the laws of `src/happening.rt`.
pub mod Came
pub mod Counted
pub mod Near
pub mod Granted
pub mod Ending
pub mod Allowed
pub mod Lain
pub mod Refused
pub mod Said
pub mod TicksMet
pub mod Met
pub mod Queueing
pub mod Lists
