-- The files of this folder: definitions; laws about them.
pub mod History
pub mod FromSlices
pub mod laws
