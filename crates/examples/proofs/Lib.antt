pub mod Worked
pub mod Recorded
