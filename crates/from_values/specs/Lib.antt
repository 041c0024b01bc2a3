-- The files of this folder: definitions; laws about them.
pub mod FromValues
pub mod InStruct
pub mod laws
