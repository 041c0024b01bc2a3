-- The files of this folder: laws about the definitions of this crate; the room for a block, which proofs here and in quick cite.
pub mod laws
pub mod Room
