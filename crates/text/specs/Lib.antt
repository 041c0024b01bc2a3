-- The files of this folder: definitions; laws about them.
pub mod Text
pub mod Put
pub mod Cursor
pub mod laws
