pub mod Lists
pub mod State
pub mod Moves
pub mod Takes
pub mod Calls
pub mod Searches
pub mod Usual
pub mod Turns
