-- Laws about the definitions of this crate.
pub mod Walk
pub mod Listing
pub mod Searched
