-- The files of this folder: definitions; internal, definitions that only private contracts cite.
pub mod Words
pub mod internal
