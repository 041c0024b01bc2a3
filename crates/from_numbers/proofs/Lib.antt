-- The files of this folder: lemmas of the proofs.
pub mod Held
