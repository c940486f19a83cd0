mod Lanes
mod Shown
