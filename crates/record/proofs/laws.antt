-- Laws about the definitions of this crate.
pub mod Sound
pub mod Kind
pub mod Held
pub mod Taken
pub mod Returned
