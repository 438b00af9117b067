pub mod Addresses
pub mod Prefixes
pub mod Meaning
