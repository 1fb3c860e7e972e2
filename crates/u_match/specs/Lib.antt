pub mod Ports
pub mod Keys
pub mod ReadOrder
pub mod Finite
pub mod Joins
pub mod Waking
pub mod Numbers
