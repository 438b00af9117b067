pub mod Tracking
pub mod Scan
