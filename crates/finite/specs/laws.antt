-- Laws about the definitions of this crate.
pub mod Booleans
pub mod Every
pub mod First
pub mod Least
