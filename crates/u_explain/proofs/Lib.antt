pub mod LeftLaws
pub mod ListLaws
pub mod LineLaws
pub mod PlaceLaws
pub mod BehindLaws
pub mod ScanLaws
