pub mod Ids
pub mod FirstFault
pub mod Good
