-- The files of this folder: definitions; laws about them.
pub mod Board
pub mod Holds
pub mod laws
