-- Laws about definitions of the crates below.
pub mod Inside
