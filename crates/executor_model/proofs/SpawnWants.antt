-- A spawn is answered that memory is wanted as its hint says: spawns_want_memory_as_told.
pub mod Tops
pub mod WantFrames
pub mod WantSteps
pub mod Wants
