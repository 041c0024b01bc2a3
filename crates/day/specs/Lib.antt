-- The files of this folder: definitions; laws about them.
pub mod Day
pub mod laws
