-- The files of this folder: definitions; laws about them.
pub mod Bits
pub mod laws
