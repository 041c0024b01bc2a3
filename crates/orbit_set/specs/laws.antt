-- Laws about the definitions of this crate.
pub mod Ways
pub mod Placed
