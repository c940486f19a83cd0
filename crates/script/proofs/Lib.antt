pub mod Numbering
pub mod Parsing
pub mod Unambiguous
pub mod Unread
