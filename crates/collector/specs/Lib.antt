-- The files of this folder: definitions; laws about them.
pub mod Held
pub mod Feed
pub mod Questions
pub mod laws
