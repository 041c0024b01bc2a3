-- Laws about the definitions of this crate.
pub mod WrittenReads
pub mod RoundTrip
