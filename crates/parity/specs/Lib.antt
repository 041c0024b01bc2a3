-- The files of this folder: definitions; internal, definitions that only private contracts cite; laws about them.
pub mod Table
pub mod Word
pub mod internal
pub mod laws
