pub mod Counted
pub mod Definitions
pub mod Naming
pub mod Needs
pub mod Weights
