pub mod Acting
pub mod Going
pub mod Refused
pub mod SearchesRead
pub mod Unrefused
