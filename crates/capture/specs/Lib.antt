pub mod Fields
pub mod Capture
pub mod Parts
pub mod Meaning
