-- Laws about the definitions of this crate.
pub mod Answers
pub mod TermsExact
pub mod TermsPrinted
