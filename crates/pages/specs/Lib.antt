-- The files of this folder: definitions; laws about them.
pub mod Held
pub mod After
pub mod Questions
pub mod laws
