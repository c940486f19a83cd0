pub mod Cells
pub mod Ring
pub mod Placing
pub mod Sleeping
pub mod Agreeing
pub mod Turning
