pub mod Laws
pub mod Cutting
pub mod MeaningLaws
pub mod OnSomeip
