-- The files of this folder: definitions; laws about them.
pub mod Values
pub mod laws
