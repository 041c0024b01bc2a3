-- The files of this folder: laws about the definitions of this crate; the state of the walk, which two proof files cite.
pub mod laws
pub mod Rest
