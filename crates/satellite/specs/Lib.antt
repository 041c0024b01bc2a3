-- The files of this folder: definitions; laws about them.
pub mod Satellite
pub mod laws
