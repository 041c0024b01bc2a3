-- The files of this folder: definitions; laws about them.
pub mod Terms
pub mod laws
