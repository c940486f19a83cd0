-- Ticks, and calls that are made alone or at rest, are answered as it is: ticks_are_exact, calls_at_rest_are_exact and
-- lone_calls_are_exact.
pub mod Ticking
pub mod LoneAnswers
pub mod Finding
pub mod Following
pub mod Inside
pub mod Begun
