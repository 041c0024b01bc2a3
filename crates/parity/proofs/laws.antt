-- Laws about the definitions of this crate.
pub mod Inverse
pub mod Flips
pub mod OneFlip
