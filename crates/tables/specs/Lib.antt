-- The files of this folder: definitions.
pub mod Tables
pub mod Listed
pub mod Agreement
