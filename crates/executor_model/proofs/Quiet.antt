-- Which calls are in progress, and that nobody has anything to do where none is: quiet_emptiness_is_exact,
-- outputs_are_kept, awaiters_are_kept, own_queues_agree and dropped_executors_drop_each_future_once.
pub mod Calls
pub mod RunsCalls
pub mod SleepersCalls
pub mod CallsGroups
pub mod Resting
pub mod CallsDone
pub mod AfterDrop
