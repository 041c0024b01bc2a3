-- The files of this folder: laws about the definitions of this crate.
pub mod laws
