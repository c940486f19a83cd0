-- Whoever is answered no is answered at once: no_comes_at_once.
pub mod Prompting
pub mod PromptExecutions
pub mod Turns
pub mod SecondLooks
pub mod Emptied
pub mod TicksMade
pub mod Makings
