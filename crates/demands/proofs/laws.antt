-- Laws about the definitions of this crate.
pub mod Table
pub mod Demands
pub mod Running
