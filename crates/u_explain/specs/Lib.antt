pub mod Left
pub mod Lines
pub mod Places
pub mod Accepted
