pub mod Destinations
pub mod SentTokens
pub mod Orders
pub mod Linkage
pub mod Places
pub mod ParameterLaws
pub mod Follow
pub mod InOrder
pub mod Texts
pub mod FiringShapes
pub mod Lists
pub mod Firings
pub mod Own
pub mod Told
pub mod Outcome
pub mod FirstByteLaws
pub mod StepLaws
pub mod PortLaws
pub mod EntryPartLaws
pub mod EntryReadingLaws
pub mod EndedLaws
pub mod FiringReadingLaws
pub mod FiringPartLaws
pub mod ResultsInRange
pub mod GivenInRange
pub mod InRange
pub mod Lift
mod TokenLaws
mod Both
mod Cells
pub mod Placing
