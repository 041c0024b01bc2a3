-- The files of this folder: laws, of what the functions here count.
pub mod laws
