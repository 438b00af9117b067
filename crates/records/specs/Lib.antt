pub mod Records
pub mod Step
pub mod Good
