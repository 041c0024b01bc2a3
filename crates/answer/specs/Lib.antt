-- The files of this folder: definitions; laws about them.
pub mod Answer
pub mod laws
