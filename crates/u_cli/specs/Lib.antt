pub mod Asking
pub mod Drawings
pub mod Fleets
pub mod Shares
pub mod Texts
pub mod Worlds
