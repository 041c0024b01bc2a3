-- The files of this folder: definitions; laws about them.
pub mod Written
pub mod Writer
pub mod laws
