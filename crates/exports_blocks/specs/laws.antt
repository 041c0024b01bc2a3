-- Laws about the definitions of this crate.
pub mod ReadAgain
pub mod WrittenValues
pub mod ByNumber
