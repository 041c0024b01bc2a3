-- Laws about the definitions of this crate.
pub mod Linear
pub mod Local
pub mod Equations
pub mod OneWord
