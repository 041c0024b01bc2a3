-- The files of this folder: definitions; laws about them.
pub mod Scaled
pub mod Exact
pub mod Nearest
pub mod laws
