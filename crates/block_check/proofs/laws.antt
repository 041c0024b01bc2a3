-- Laws about the definitions of this crate.
pub mod Broken
pub mod Acceptance
pub mod Flips
pub mod Inverse
pub mod Uniqueness
pub mod Copies
