-- The files of this folder: definitions; laws about them.
pub mod Time
pub mod laws
