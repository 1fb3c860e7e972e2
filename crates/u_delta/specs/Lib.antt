pub mod Marks
pub mod MessageText
pub mod Lines
pub mod Messages
pub mod HeadReading
pub mod Front
pub mod Reading
pub mod WrittenContexts
