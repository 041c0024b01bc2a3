-- Laws about the definitions of this crate.
pub mod Record
pub mod Positions
pub mod AsKind
pub mod Placed
