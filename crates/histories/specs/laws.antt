-- Laws about the definitions of this crate.
pub mod Entries
pub mod AfterFeed
pub mod Received
pub mod ByNumber
