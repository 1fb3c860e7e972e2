pub mod Jobs
pub mod Kinds
pub mod Plain
pub mod Questions
pub mod Rules
pub mod Tables
