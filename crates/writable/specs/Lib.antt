-- The files of this folder: definitions; laws about them.
pub mod Check
pub mod laws
