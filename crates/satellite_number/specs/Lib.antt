-- The files of this folder: definitions; laws about them.
pub mod Numbers
pub mod laws
