-- Laws about the definitions of this crate.
pub mod History
pub mod Sets
pub mod Pages
