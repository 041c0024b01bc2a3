-- Laws about the definitions of this crate, and about the modulo of a day.
pub mod Remainder
pub mod Day
