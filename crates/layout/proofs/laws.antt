-- Laws about the definitions of this crate.
pub mod Field
pub mod Signs
pub mod Layout
pub mod Table
