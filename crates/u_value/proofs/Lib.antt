pub mod Division
pub mod Ranges
pub mod Written
pub mod ReadingLaws
pub mod EqualReferences
