-- Laws about the definitions of this crate.
pub mod Number
