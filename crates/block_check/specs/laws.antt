-- Laws about the definitions of this crate.
pub mod Answers
pub mod Ways
pub mod SameWords
