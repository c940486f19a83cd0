-- Which calls take no memory, and what a refused call leaves: wakes_and_drops_take_no_memory,
-- refused_calls_change_nothing and want_of_memory_is_told_of.
pub mod RunsUntold
pub mod Unasking
pub mod SleepersMemory
pub mod UnaskingGroups
pub mod Refusing
