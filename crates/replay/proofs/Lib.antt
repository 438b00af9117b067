pub mod OnBytes
pub mod OnPosition
pub mod OnTable
pub mod OnTurns
pub mod Printed
