-- The files of this folder: definitions; laws about them.
pub mod KindNumber
pub mod Kind
pub mod Fields
pub mod Record
pub mod AsKind
pub mod Writable
pub mod Source
pub mod Positions
pub mod laws
