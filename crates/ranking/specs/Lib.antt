-- The files of this folder: definitions; laws about them; what the code's list holds.
pub mod Standing
pub mod Ranking
pub mod internal
pub mod laws
