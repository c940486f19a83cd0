pub mod Calling
pub mod Commands
pub mod Reading
pub mod Rooms
pub mod Wanting
