pub mod Buckets
pub mod Masks
pub mod Held
pub mod Seats
pub mod Answers
