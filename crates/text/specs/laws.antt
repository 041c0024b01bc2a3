-- Laws about the definitions of this crate.
pub mod Text
pub mod Put
pub mod Cursor
