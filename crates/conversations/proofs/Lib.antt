pub mod ScanLaws
pub mod TrackLaws
pub mod KeptLaws
pub mod ViewLaws
