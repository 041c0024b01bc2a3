-- Laws about the definitions of this crate.
pub mod Xor
pub mod Pack
pub mod Parts
pub mod Columns
pub mod Distance
pub mod Masks
