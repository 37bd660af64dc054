pub mod Lang
pub mod Reader
pub mod Sets
pub mod Loops
pub mod Pieces
pub mod Bytes
pub mod Classes
