pub mod Transport
pub mod Someip
pub mod Inside
pub mod Meaning
