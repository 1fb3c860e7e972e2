pub mod AllDone
pub mod AskingLaws
pub mod DrawnLaws
pub mod Gathering
pub mod HeldLaws
pub mod TextLaws
