pub mod Crossing
pub mod Comparable
pub mod Growing
