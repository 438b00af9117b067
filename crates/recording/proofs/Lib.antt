pub mod OnJudging
pub mod OnRun
pub mod OnFeed
pub mod Whole
pub mod Once
