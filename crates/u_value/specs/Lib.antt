pub mod Division
pub mod FaultKinds
pub mod Operators
pub mod Pointer
pub mod PointerOrder
pub mod Values
pub mod Reading
pub mod ExactOrders
