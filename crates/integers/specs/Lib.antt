-- The files of this folder: definitions; laws about them.
pub mod Whole
pub mod laws
