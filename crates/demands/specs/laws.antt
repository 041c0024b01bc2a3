-- Laws about the definitions of this crate.
pub mod Placed
pub mod Brought
