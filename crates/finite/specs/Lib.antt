-- The files of this folder: definitions; laws about them.
pub mod Every
pub mod First
pub mod Least
pub mod Tabulate
pub mod laws
