-- That what the plain scheduler sees is what an executor of one owner hands out: the laws of `src/answers.rt`.
pub mod Telling
pub mod Calling
pub mod Polling
pub mod Spawning
pub mod Taking
pub mod Ending
pub mod Losing
pub mod StillListed
pub mod StillHoused
pub mod StillTallied
pub mod Courses
pub mod Counts
pub mod StillOrdered
pub mod AllThere
pub mod AfterClose
pub mod LastCalls
