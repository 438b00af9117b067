pub mod Places
pub mod Ageing
pub mod Good
