pub mod PlaceLaws
pub mod AgeingLaws
pub mod HoldLaws
pub mod PlacesLaws
pub mod ViewLaws
