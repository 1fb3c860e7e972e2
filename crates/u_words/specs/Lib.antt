pub mod Numbers
pub mod Requests
