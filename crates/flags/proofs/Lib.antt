pub mod OnKinds
