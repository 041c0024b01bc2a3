-- The files of this folder: definitions; internal, definitions that only private contracts cite.
pub mod Field
pub mod Layout
pub mod Table
pub mod internal
