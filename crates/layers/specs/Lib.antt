pub mod Layers
pub mod Inside
pub mod Seen
