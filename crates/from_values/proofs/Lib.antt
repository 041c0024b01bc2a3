-- The files of this folder: laws about the definitions of this crate, and lemmas of the proofs.
pub mod laws
pub mod Held
