-- Laws about the definitions of this crate.
pub mod Reader
pub mod SameRecord
