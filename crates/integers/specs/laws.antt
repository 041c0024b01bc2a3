-- Laws about the definitions of this crate.
pub mod Sizes
pub mod Machine
pub mod BySign
pub mod Shift
