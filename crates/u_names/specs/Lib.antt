pub mod CellPairs
pub mod Contexts
pub mod ExactOrders
pub mod Frames
pub mod Groups
pub mod NameLists
pub mod Places
pub mod Spots
