pub mod BucketSteps
pub mod SeatSteps
pub mod Exclusive
pub mod Masking
