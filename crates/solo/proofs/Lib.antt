mod Stealing
mod Leaking
mod Searching
