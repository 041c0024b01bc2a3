-- The files of this folder: definitions; laws about them.
pub mod Block
pub mod Polarity
pub mod Syndrome
pub mod View
pub mod laws
