-- The files of this folder: definitions.
pub mod Search
