pub mod Decider
pub mod Best
