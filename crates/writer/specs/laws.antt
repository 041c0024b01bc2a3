-- Laws about the definitions of this crate.
pub mod Words
pub mod Carrying
pub mod Writer
