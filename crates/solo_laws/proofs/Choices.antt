-- How a run of an executor of one owner chooses, in the words of the plain scheduler: the laws of `src/choosing.rt`.
pub mod Finding
pub mod Shares
pub mod Risen
pub mod Usually
pub mod Robbing
pub mod Ordered
pub mod AsUsual
pub mod Seeking
pub mod Searched
pub mod RunTurns
pub mod Turns
pub mod Counts
