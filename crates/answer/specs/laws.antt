-- Laws about the definitions of this crate.
pub mod Lines
pub mod ByNumber
