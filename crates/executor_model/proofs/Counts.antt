-- What stands for a task is counted: its wakers, its Runnable, and who has a part of it: one_runnable and
-- references_are_counted.
pub mod Counting
pub mod CountingHandles
pub mod Fitting
pub mod SleepersFitting
pub mod RunsFitting
pub mod FittingActs
pub mod FittingSound
pub mod SoundViews
pub mod SoundAll
