-- Laws about the definitions of this crate.
pub mod Polarity
pub mod Windows
pub mod Packed
pub mod Syndrome
