pub mod BoundedCells
pub mod BoundedFaces
pub mod BoundedKeeps
pub mod BoundedStands
pub mod PlacesLeft
pub mod SingleKeeps
pub mod SingleTurns
