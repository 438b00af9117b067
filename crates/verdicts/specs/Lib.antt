pub mod Record
pub mod Rule
pub mod Good
pub mod Verdict
