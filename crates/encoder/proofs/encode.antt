-- The laws that the proofs of `encode` cite.
pub mod Packed
