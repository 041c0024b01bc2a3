-- The files of this folder: definitions; laws about them.
pub mod Reader
pub mod laws
