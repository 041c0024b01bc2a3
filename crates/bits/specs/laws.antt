-- Laws about the definitions of this crate.
pub mod Places
pub mod Weight
