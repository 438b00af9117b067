pub mod Events
pub mod Arrays
