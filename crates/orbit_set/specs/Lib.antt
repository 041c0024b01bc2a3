-- The files of this folder: definitions; laws about them.
pub mod Set
pub mod laws
