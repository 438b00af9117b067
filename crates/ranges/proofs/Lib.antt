pub mod Tests
pub mod Rules
pub mod Unset
pub mod Whole
