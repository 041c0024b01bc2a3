-- Laws about the definitions of this crate.
pub mod ValuesExactly
pub mod OwnValues
