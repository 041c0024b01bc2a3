-- Laws about the definitions of this crate.
pub mod Answers
pub mod Machine
pub mod Having
pub mod InStruct
