pub mod OnFields
pub mod OnRecords
pub mod Ahead
pub mod Whole
pub mod MeaningLaws
