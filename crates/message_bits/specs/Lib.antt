-- The files of this folder: definitions; laws about them.
pub mod Message
pub mod laws
