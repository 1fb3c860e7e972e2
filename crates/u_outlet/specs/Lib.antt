pub mod Ends
pub mod Fronts
pub mod Sound
pub mod Writing
