pub mod Deciders
pub mod Leading
pub mod Fitting
