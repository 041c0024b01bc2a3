-- The files of this folder: definitions; laws about them.
pub mod Table
pub mod Message
pub mod Orbit
pub mod Detected
pub mod laws
