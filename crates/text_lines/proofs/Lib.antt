pub mod Cutting
pub mod Reading
pub mod Good
pub mod One
pub mod Zipping
