-- The files of this folder: definitions; laws about them.
pub mod Told
pub mod laws
