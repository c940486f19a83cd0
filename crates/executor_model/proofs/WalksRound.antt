-- A walk goes to each queue of the list but the walker's own: walks_go_round.
pub mod Ahead
pub mod Round
