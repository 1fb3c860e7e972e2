pub mod Rising
pub mod Members
pub mod Pairs
pub mod Columns
pub mod Fronted
