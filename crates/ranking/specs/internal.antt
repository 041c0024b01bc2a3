-- What the code's list holds.
pub mod Laid
