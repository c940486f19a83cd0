pub mod Bringing
pub mod Coming
pub mod Answers
pub mod Gathered
pub mod Results
pub mod Lines
