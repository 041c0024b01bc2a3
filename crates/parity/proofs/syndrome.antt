-- The laws that the proofs of `syndrome` cite.
pub mod Masks
