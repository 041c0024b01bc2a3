-- Laws about the definitions of this crate.
pub mod After
pub mod Ways
