-- Kept wakers come and go one by one: copies_are_counted.
pub mod Endings
pub mod CopyFrames
pub mod CopySteps
pub mod Counted
