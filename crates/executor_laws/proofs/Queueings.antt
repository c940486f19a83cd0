-- Appends to the executor's queue are counted: queueings_are_counted.
pub mod Queueing
