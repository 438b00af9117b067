pub mod Prefixes
pub mod AddressLaws
pub mod MeaningLaws
