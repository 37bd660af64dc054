pub mod Types
pub mod Leaves
pub mod Values
