pub mod Lines
pub mod Headline
pub mod Calls
