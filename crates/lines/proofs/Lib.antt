pub mod Decimals
pub mod Writes
pub mod Meaning
