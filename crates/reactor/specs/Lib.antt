pub mod Attempts
pub mod Errors
pub mod Lanes
pub mod Polls
pub mod Sides
pub mod Tables
