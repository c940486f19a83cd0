-- The words of the headline are those of the laws: headline_holds.
pub mod Ending
pub mod Lone
pub mod Reach
pub mod Turns
pub mod Words
