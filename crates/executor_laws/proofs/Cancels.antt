-- A poll of a handle is answered that no output will come only where that is so: cancelled_means_over.
pub mod NoMore
pub mod Owing
