-- Laws about the definitions of this crate.
pub mod Values
pub mod Rounding
