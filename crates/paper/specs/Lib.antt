pub mod TableT
pub mod Frames
pub mod Worked
