-- The files of this folder: definitions; laws about them.
pub mod Accuracy
pub mod laws
