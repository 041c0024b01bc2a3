-- Laws about the definitions of this crate.
pub mod Encode
pub mod Fillers
