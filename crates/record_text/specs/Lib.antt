-- The files of this folder: definitions.
pub mod FieldLines
pub mod Kinds
