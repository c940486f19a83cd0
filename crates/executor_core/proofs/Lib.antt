pub mod Restated
pub mod Owing
pub mod Scans
pub mod Reaching
pub mod Lifting
pub mod FallingAsleep
pub mod Stealing
pub mod Finding
pub mod Listing
pub mod Cells
pub mod Seating
mod Rising
pub mod TicksPlaces
pub mod Rooms
pub mod TicksLeaving
pub mod Lists
pub mod Taking
pub mod Walking
pub mod TicksAndRunsAt
mod RunsLeaving
