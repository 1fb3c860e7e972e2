pub mod Fleets
pub mod Gains
pub mod Gathering
pub mod Headline
pub mod Plans
pub mod Shares
pub mod Workers
pub mod Working
