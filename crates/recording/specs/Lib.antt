pub mod Run
pub mod Feed
pub mod ByParts
pub mod Unique
