-- The files of this folder: internal, definitions that only private contracts cite.
pub mod internal
