pub mod Entries
pub mod Names
pub mod Growing
pub mod Lists
pub mod Fired
