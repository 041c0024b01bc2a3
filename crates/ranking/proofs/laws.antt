-- Laws about the definitions of this crate.
pub mod Order
pub mod Given
pub mod Ways
pub mod Ranking
pub mod Histories
