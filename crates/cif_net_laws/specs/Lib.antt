pub mod Face
pub mod Invariants
