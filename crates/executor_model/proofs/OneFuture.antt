-- What the laws of one future read of the machine, and what each thing that is done does to that: for all laws of one
-- future.
pub mod Stories
pub mod Telling
pub mod Requests
pub mod Tallies
pub mod Extras
pub mod Views
pub mod OwedRows
pub mod MoveViews
pub mod Passes
pub mod Passing
pub mod RunsPassing
pub mod Effects
pub mod EffectsCalls
pub mod EffectsWays
