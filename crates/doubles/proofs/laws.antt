-- Laws about the definitions of this crate.
pub mod Patterns
pub mod Products
pub mod Units
pub mod Nearest
