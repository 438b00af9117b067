pub mod Run
pub mod Statements
pub mod Strike
pub mod Sockets
pub mod Clock
pub mod Passes
pub mod Unique
